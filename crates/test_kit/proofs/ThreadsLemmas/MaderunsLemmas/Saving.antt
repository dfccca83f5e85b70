-- What a play gives to its files.
use Rattle.std.proofs.Common.{◌≡◌, ℕ, zero, suc, ◌<◌, ◌≤◌, false, List, length, All, refl, sym, ◌∙◌, ap, subst, arith}
use Rattle.std.proofs.lemmas.List.Elements.{All-weaker}
use Rattle.rept_isa.specs.declared.instr.Instr.{Instr}
use Rattle.rept_steps.specs.declared.threads.ThreadRows.{ThreadRows}
use Rattle.test_kit.specs.declared.threads.turns.turn.Turn.{Turn}
use Rattle.test_kit.specs.Threads.Turns.Turns.{rows_in}
use Rattle.test_kit.specs.declared.threads.play.made.Made.{Made}
use Rattle.test_kit.specs.declared.threads.play.score.Sizes.{Sizes}
use Rattle.test_kit.specs.Threads.Play.Made.{IsPlayMade}
use Rattle.test_kit.proofs.ThreadsLemmas.PlayLemmas.Turning.{rows_most}
use Rattle.rept_encode.specs.declared.weaving.stretch.HartStretch.{HartStretch}
use Rattle.rept_encode.specs.Weaving.Woven.{IsWoven}
use Rattle.test_kit.specs.Threads.Maderuns.Words.{AreCode}
use Rattle.rept_make.specs.Files.{executable}
use Rattle.test_kit.specs.Threads.Maderuns.Files.{core_file}
use Rattle.test_kit.specs.Threads.Maderuns.Harts.{harts_of, HaveRows, IsSendable}
use Rattle.test_kit.specs.Threads.Maderuns.Made.{IsMadeRun}
use Rattle.test_kit.proofs.ThreadsLemmas.MaderunsLemmas.Sending.{all_sendable}

pub harts_size : (T : List ThreadRows) (turns : List Turn) (n s : ℕ) → length (harts_of T turns n s) ≡ n
harts_size T turns zero s = refl
harts_size T turns (suc n) s = let rest = harts_size T turns n (suc s) in omega arith

module _ (seed : ℕ) (sizes : Sizes) (made : Made) (m : IsPlayMade seed sizes made) where
  pub few_rows : (t : ℕ) → rows_in t made.turns.items ≤ 65536
  few_rows t = let most = rows_most t made.turns.items in let few = m.playable.few in omega arith

  pub have_rows : HaveRows made.played.run.threads made.turns.items
  have_rows = record {
    four = m.is_played.four;
    threads_are = All-weaker (λ (turn : Turn). turn.thread < 4) (λ (turn : Turn). turn.thread < length made.played.run.threads) (λ turn small. let four = m.is_played.four in omega arith) made.turns.items m.playable.threads;
    rows = m.is_played.played_turns.rows;
    few = few_rows;
  }

  pub sendable : (n : ℕ) → All (All (λ (s : HartStretch). IsSendable s.steps)) (harts_of made.played.run.threads made.turns.items n 0)
  sendable n = all_sendable made.code.items made.played.run.threads made.turns.items m.playable m.is_played.played_turns.rows m.is_played.rows n

  -- what was written
  module _ (T : List ThreadRows) (turns : List Turn) (harts : List (List HartStretch)) (threads_are : T ≡ made.played.run.threads) (turns_are : turns ≡ made.turns.items) (are : harts ≡ harts_of T turns sizes.streams 0) where
    harts_are : harts ≡ harts_of made.played.run.threads made.turns.items sizes.streams 0
    harts_are = are ∙ (λ i. harts_of (threads_are i) (turns_are i) sizes.streams 0)

    pub harts_count : length harts ≡ sizes.streams
    harts_count = ap (length {A = List HartStretch}) harts_are ∙ harts_size made.played.run.threads made.turns.items sizes.streams 0

    pub harts_sendable : All (All (λ (s : HartStretch). IsSendable s.steps)) harts
    harts_sendable = subst (All (All (λ (s : HartStretch). IsSendable s.steps))) (sym harts_are) (sendable sizes.streams)

    pub made_run : (code : List Instr) (words words_now bytes exe core trace : List ℕ) → code ≡ made.code.items → AreCode code words → words_now ≡ words → exe ≡ executable 256 7 words_now → bytes ≡ made.played.bytes.items
        → core ≡ core_file turns made.played.registers bytes → IsWoven false harts trace → IsMadeRun seed sizes (record { made = made; exe = exe; core = core; trace = trace })
    made_run code words words_now bytes exe core trace code_is spelled words_are exe_is bytes_are core_is woven = record {
      play = m;
      words = words;
      code = subst (λ (is : List Instr). AreCode is words) code_is spelled;
      exe = exe_is ∙ ap (executable 256 7) words_are;
      core = core_is ∙ (λ i. core_file (turns_are i) made.played.registers (bytes_are i));
      woven = subst (λ (hs : List (List HartStretch)). IsWoven false hs trace) harts_are woven;
    }
