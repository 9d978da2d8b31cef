use Rattle.std.proofs.Common.{rules, ◌≡◌, ◌∙◌, map, Option, sym, ap, ap₂, subst}
use Rattle.eit_segments.specs.Placement.{AreInOrder, present_at, following_at}
use Rattle.guide_board.specs.Lines.{time_of, line_of}
use Rattle.guide_board.specs.Posts.{slot_at, present, following}
use Rattle.guide_board.specs.declared.lines.Slot.{Slot}
use Rattle.guide_board.proofs.Times.{times_in_order, present_times, following_times}
use Rattle.guide_board.proofs.lines.line_of.Goals as goal

pub present_following-present-requires : goal.present_following-present-requires
present_following-present-requires c =
    let times : c.as_slice.result.now ≡ map time_of c.args.service.now.events = search rules in
    record { order = subst AreInOrder (sym times) (times_in_order c.args.service.now.events c.requires) }

pub returns : goal.returns
returns c =
    let service = c.args.service.now in
    let moment = c.args.moment.0 in
    let times : c.as_slice.result.now ≡ map time_of service.events = search rules in
    let events : c.as_slice-events.result.now ≡ service.events = search rules in
    let now : c.slot_at.result ≡ present moment service.events =
    c.slot_at.ensures ∙ ap₂ slot_at events (c.present_following-present.ensures.present ∙ (ap (present_at moment) times ∙ present_times moment service.events)) in
    let next : c.slot_at-2.result ≡ following moment service.events =
    c.slot_at-2.ensures ∙ ap₂ slot_at events (c.present_following-present.ensures.following ∙ (ap (following_at moment) times ∙ following_times moment service.events)) in
    ap₂ (λ (a b : Option Slot). record (line_of moment service) { present = a; following = b }) now next
