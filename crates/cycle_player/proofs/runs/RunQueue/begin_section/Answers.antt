use Rattle.std.proofs.Common.{◌≡◌, ℕ, ◌+◌, Some, refl, sym, subst}
use Rattle.std.proofs.lemmas.List.{drop-drop}
use Rattle.air_model.specs.Telling.{Retells, laid_in}
use Rattle.cycle_player.specs.Running.{Course, course_of, first_of, Begins}
use Rattle.cycle_player.specs.declared.runs.RunQueue.TheInside.{Inside}
use Rattle.cycle_player.proofs.Chosen.{placed_fit}
use Rattle.cycle_player.proofs.Courses.{begun_fine}
use Rattle.cycle_player.proofs.runs.RunQueue.begin_section.Goals as goal

pub invariant_of-self : goal.invariant_of-self
invariant_of-self c =
    let i = c.self.inside in
    let t = c.args.timing in
    let laid = c.tell.new.self in
    let new : Inside = record { alloc = i.alloc; laid = laid; timings = i.timings; next = i.next + 1; at = Some t.section; end = t.last + 1; rate = i.rate; clock = i.clock } in
    let begins : Begins t (course_of i) (course_of new) = record {
      told = subst (λ (m : ℕ). Retells m t.section (laid_in i.laid.bytes.items i.laid.placed.items) (laid_in laid.bytes.items laid.placed.items)) c.told-moment.ensures.told c.tell.ensures.told;
      at = refl;
      left = sym (drop-drop 1 i.next i.timings.items);
      end = refl;
      rate = refl;
      clock = refl;
      each = placed_fit laid.bytes.items laid.placed.items c.tell.ensures.line.each;
    } in
    let first : first_of (course_of i).left ≡ Some t = subst (λ (x : Course). first_of x.left ≡ Some t) (sym c.self.view_is) c.requires in
    record { line = c.tell.ensures.line; course = begun_fine t (course_of i) (course_of new) c.self.invariant.course begins first }

pub returns : goal.returns
returns c =
    let i = c.self.inside in
    let t = c.args.timing in
    let laid = c.tell.new.self in
    let new : Inside = record { alloc = i.alloc; laid = laid; timings = i.timings; next = i.next + 1; at = Some t.section; end = t.last + 1; rate = i.rate; clock = i.clock } in
    let begins : Begins t (course_of i) (course_of new) = record {
      told = subst (λ (m : ℕ). Retells m t.section (laid_in i.laid.bytes.items i.laid.placed.items) (laid_in laid.bytes.items laid.placed.items)) c.told-moment.ensures.told c.tell.ensures.told;
      at = refl;
      left = sym (drop-drop 1 i.next i.timings.items);
      end = refl;
      rate = refl;
      clock = refl;
      each = placed_fit laid.bytes.items laid.placed.items c.tell.ensures.line.each;
    } in
    subst (λ (x : Course). Begins t x (course_of new)) c.self.view_is begins
