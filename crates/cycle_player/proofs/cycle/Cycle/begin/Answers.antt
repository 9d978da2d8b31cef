use Rattle.std.proofs.Common.{◌≡◌, ℕ, List, [], length, map, refl, sym, ap, ◌∙◌, subst}
use Rattle.version_book.specs.Airings.{AiredTables}
use Rattle.version_book.specs.Book.{BookStandsFor, aired}
use Rattle.air_model.specs.Air.{Sent, sections_once}
use Rattle.cycle_timing.specs.Planning.{timings_of}
use Rattle.carousel_player.specs.Queue.{IsBegun}
use Rattle.air_model.specs.Telling.{sent_retold}
use Rattle.cycle_player.specs.Clock.{reads}
use Rattle.cycle_player.specs.Playing.{uncounted_at}
use Rattle.cycle_player.specs.Running.{run_of, packets_left, after, IsAtStart, IsOver}
use Rattle.cycle_player.specs.declared.runs.Begun.{Begun}
use Rattle.cycle_player.proofs.Begun.{at_start, many, over, start_between, over_between}
use Rattle.cycle_player.proofs.Plays.{both_ways, on_ok_three, if_ok_three, on_err_of}
use Rattle.cycle_player.proofs.cycle.Cycle.begin.Goals as goal

pub invariant_of-self : goal.invariant_of-self
invariant_of-self c =
    let q = c.begin.new.self in
    let none : run_of q ≡ [] =
    both_ways c.begin.result (IsAtStart c.args.rate (reads c.args.clock) q) (IsOver q) (run_of q ≡ []) c.begin.ensures.course c.begin.ensures.ended
    (start_between c.args.rate (reads c.args.clock) q) (over_between q) in
    subst (λ (l : List Sent). IsBegun 0 l) (sym none) refl

pub returns-clause-begun : goal.returns-clause-begun
returns-clause-begun c =
    let q = c.begin.new.self in
    let tables = c.args.tables.now.list in
    let offsets = c.args.offsets.now in
    let rate = c.args.rate in
    let clock = reads c.args.clock in
    let start : Type 0 = IsAtStart rate clock q in
    let left : Type 0 = (past : List AiredTables) (a : AiredTables) → a.tables ≡ tables → a.form.offsets ≡ offsets → q.left ≡ timings_of rate past a in
    let laid : Type 0 =
    (past : List AiredTables) (quota at : ℕ) → BookStandsFor past c.args.book.now
    → map (sent_retold at) q.laid ≡ sections_once past (aired tables at (record { quota = quota; offsets = offsets })) in
    let begun : Type 0 =
    (past : List AiredTables) (quota : ℕ) → BookStandsFor past c.args.book.now
    → packets_left q 0 ≡ uncounted_at rate clock past (aired tables c.args.moment.0 (record { quota = quota; offsets = offsets })) in
    on_ok_three c.begin.result start left laid begun c.begin.ensures.course c.begin.ensures.left c.begin.ensures.laid
    (λ x y z past quota stands. at_start rate clock past (aired tables c.args.moment.0 (record { quota = quota; offsets = offsets })) q x (y past (aired tables c.args.moment.0 (record { quota = quota; offsets = offsets })) refl refl) (λ m. z past quota m stands))

pub returns-clause-packets : goal.returns-clause-packets
returns-clause-packets c =
    let q = c.begin.new.self in
    let tables = c.args.tables.now.list in
    let offsets = c.args.offsets.now in
    let rate = c.args.rate in
    let clock = reads c.args.clock in
    let start : Type 0 = IsAtStart rate clock q in
    let left : Type 0 = (past : List AiredTables) (a : AiredTables) → a.tables ≡ tables → a.form.offsets ≡ offsets → q.left ≡ timings_of rate past a in
    let laid : Type 0 =
    (past : List AiredTables) (quota at : ℕ) → BookStandsFor past c.args.book.now
    → map (sent_retold at) q.laid ≡ sections_once past (aired tables at (record { quota = quota; offsets = offsets })) in
    if_ok_three c.begin.result start left laid (λ (b : Begun). b.packets ≡ after 0 q.left) (λ (b : Begun). (past : List AiredTables) → BookStandsFor past c.args.book.now → b.packets ≡ length (packets_left q 0))
    c.begin.ensures.course c.begin.ensures.left c.begin.ensures.laid c.begin.ensures.packets
    (λ b x y z count past stands.
    count ∙ ap (after 0) (y past (aired tables c.args.moment.0 (record { quota = 0; offsets = offsets })) refl refl) ∙ sym (many rate clock past (aired tables c.args.moment.0 (record { quota = 0; offsets = offsets })))
    ∙ ap length (sym (at_start rate clock past (aired tables c.args.moment.0 (record { quota = 0; offsets = offsets })) q x (y past (aired tables c.args.moment.0 (record { quota = 0; offsets = offsets })) refl refl) (λ m. z past 0 m stands))))

pub returns-clause-ended : goal.returns-clause-ended
returns-clause-ended c =
    let q = c.begin.new.self in
    on_err_of c.begin.result (IsOver q) (packets_left q 0 ≡ c.args.self.now) c.begin.ensures.ended (λ h. over q h ∙ sym c.requires.ended)
