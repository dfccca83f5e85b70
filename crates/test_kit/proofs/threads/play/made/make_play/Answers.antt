use Rattle.std.proofs.Common.{◌<◌, ℕ, List, All, sym, subst}
use Rattle.rept_isa.specs.declared.instr.Instr.{Instr}
use Rattle.test_kit.specs.declared.threads.turns.turn.Turn.{Turn}
use Rattle.test_kit.specs.Threads.Turns.Turns.{AreApartByStream, TakeTime, BeginTogether}
use Rattle.test_kit.specs.Threads.Play.Code.{IsPlayable}
use Rattle.test_kit.specs.Threads.Play.Drawn.{start_registers}
use Rattle.test_kit.specs.Threads.Play.Played.{IsPlayed}
use Rattle.test_kit.proofs.ThreadsLemmas.PlayLemmas.Drawing.{drawn_playable, good}
use Rattle.test_kit.proofs.threads.play.made.make_play.Goals as goal

pub play-requires : goal.play-requires
play-requires c =
    let code = c.in_ok-code.ensures in
    let drawn : IsPlayable c.in_ok-code.code.items c.in_ok-turns.turns.items = subst (λ (ts : List Turn). IsPlayable c.in_ok-code.code.items ts) (sym c.in_ok-turns.ensures) (drawn_playable c.in_ok-code.code.items c.args.seed code.drawn c.args.sizes c.requires.some c.requires.threads c.requires.streams c.requires.fewer c.args.sizes.turns c.requires.turns code.code) in
    subst (λ (is : List Instr). IsPlayable is c.as_slice-2.result.now) (sym c.as_slice.ensures.value) (subst (λ (ts : List Turn). IsPlayable c.in_ok-code.code.items ts) (sym c.as_slice-2.ensures.value) drawn)

pub returns : goal.returns
returns c =
    let code = c.in_ok-code.ensures in
    let is = c.in_ok-turns.ensures in
    let drawn = good c.in_ok-code.code.items c.args.seed code.drawn c.args.sizes c.requires.some c.requires.threads c.requires.streams c.requires.fewer c.args.sizes.turns in
    let played = subst (λ (from : List ℕ). IsPlayed c.as_slice.result.now c.as_slice-2.result.now from c.in_ok-played.played) c.start_registers.ensures c.in_ok-played.ensures in
    record {
      size = code.code.size;
      code_drawn = code.drawn;
      turns_drawn = is;
      playable = subst (λ (ts : List Turn). IsPlayable c.in_ok-code.code.items ts) (sym is) (drawn_playable c.in_ok-code.code.items c.args.seed code.drawn c.args.sizes c.requires.some c.requires.threads c.requires.streams c.requires.fewer c.args.sizes.turns c.requires.turns code.code);
      streams = subst (λ (ts : List Turn). All (λ (turn : Turn). turn.stream < c.args.sizes.streams) ts) (sym is) drawn.streams;
      apart = subst AreApartByStream (sym is) drawn.stream_apart;
      long = subst TakeTime (sym is) drawn.long;
      together = subst BeginTogether (sym is) drawn.together;
      is_played = subst (λ (is : List Instr). IsPlayed is c.in_ok-turns.turns.items (start_registers c.args.seed) c.in_ok-played.played) c.as_slice.ensures.value (subst (λ (ts : List Turn). IsPlayed c.as_slice.result.now ts (start_registers c.args.seed) c.in_ok-played.played) c.as_slice-2.ensures.value played);
    }
