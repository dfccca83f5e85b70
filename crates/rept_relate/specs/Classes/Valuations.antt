-- Words of which some differ from others by constants. A node stands for one word, and the word of
-- a node is that of its parent and an offset, modulo 2 ^ 32. This is the union-find with offsets of
-- a textbook (Tarjan, Efficiency of a good but not linear set union algorithm, 1975); the sets are
-- this project's own.
use Rattle.std.specs.Prelude.{◌≡◌, ℕ, ◌≤◌, true, List, Some, slice_get}
use Rattle.rept_isa.specs.Numbers.{beside}
use Rattle.rept_known.specs.Both.{both_has}
use Rattle.rept_relate.specs.declared.classes.node.ClassNode.{ClassNode}
use Rattle.rept_relate.specs.declared.classes.node.Term.{Term}

-- the word of a node and a constant
abbrev pub word_of : (ℕ → ℕ) → Term → ℕ
word_of value term = beside (value term.node) term.offset

-- the node's word is its parent's and its offset, and is in its set
pub record IsNodeValued (value : ℕ → ℕ) (x : ℕ) (node : ClassNode) : Type 0 where
  pub stands : value x ≡ beside (value node.parent) node.offset
  pub held : both_has node.set (value x) ≡ true

-- words that the nodes can have, all of them together
abbrev pub IsValued : List ClassNode → (ℕ → ℕ) → Type 0
IsValued nodes value = (x : ℕ) (node : ClassNode) → slice_get nodes x ≡ Some node → IsNodeValued value x node

-- the smaller node is the parent, and the root of a class is its own
pub record IsNodeInPlace (x : ℕ) (node : ClassNode) : Type 0 where
  pub below : node.parent ≤ x
  pub still : node.parent ≡ x → node.offset ≡ 0

abbrev pub IsForest : List ClassNode → Type 0
IsForest nodes = (x : ℕ) (node : ClassNode) → slice_get nodes x ≡ Some node → IsNodeInPlace x node

abbrev pub IsRoot : List ClassNode → ℕ → Type 0
IsRoot nodes x = (node : ClassNode) → slice_get nodes x ≡ Some node → node.parent ≡ x

-- the words of the one list of nodes are words of the other one
abbrev pub KeepsWords : List ClassNode → List ClassNode → Type 0
KeepsWords nodes others = (value : ℕ → ℕ) → IsValued nodes value → IsValued others value

-- the same words
pub record HaveSameWords (nodes others : List ClassNode) : Type 0 where
  pub onward : KeepsWords nodes others
  pub back : KeepsWords others nodes
