use Rattle.std.proofs.Common.{◌≡◌, ℕ, ◌+◌, List, get_or, length, subst}
use Rattle.rept_writing.specs.Acting.{IsSplitByActing}
use Rattle.rept_writing.proofs.Meeting.{around_of}
use Rattle.rept_writing.proofs.columns.Columns.around.Goals as goal

pub returns : goal.returns
returns c =
    around_of c.args.list.now c.args.self.now c.requires c.args.m c.args.w c.up_to_near-low.result c.up_to_near-high.result c.index_at.result c.index_at-2.result
    (subst (λ (xs : List ℕ). IsSplitByActing xs (c.args.m + 1) c.up_to_near-low.result) c.as_slice.ensures.value c.up_to_near-low.ensures)
    (subst (λ (xs : List ℕ). IsSplitByActing xs (c.args.w + 1) c.up_to_near-high.result) c.as_slice-2.ensures.value c.up_to_near-high.ensures)
    (subst (λ (xs : List ℕ). c.index_at.result ≡ get_or xs c.up_to_near-low.result (length c.args.list.now)) c.as_slice-places.ensures.value c.index_at.ensures)
    (subst (λ (xs : List ℕ). c.index_at-2.result ≡ get_or xs c.up_to_near-high.result (length c.args.list.now)) c.as_slice-places.ensures.value c.index_at-2.ensures)
