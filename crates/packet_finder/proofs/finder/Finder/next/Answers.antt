use Rattle.std.proofs.Common.{◌≡◌, [], take, drop, true, subst}
use Rattle.std.specs.Prelude.{Ok, None}
use Rattle.std.specs.Io.KnownBytes.{IsAtEnd}
use Rattle.packet_finder.specs.Finding.{Finding, Counted, TakesPiece}
use Rattle.packet_finder.specs.Steps.{FindsOn}
use Rattle.packet_finder.proofs.Finds.{gives_piece, takes_piece}
use Rattle.packet_finder.proofs.finder.Finder.next.Goals as goal

pub returns-in-Ok-clause-pieces : goal.returns-in-Ok-clause-pieces
returns-in-Ok-clause-pieces g c =
    let inside = c.self.inside in
    let left = g.S.Source.left in
    let was : Finding g.row.S.Denot = record { source = inside.source; held = drop inside.handed inside.held; number = inside.number; packet = take inside.handed inside.held; tail = inside.tail; passed = inside.passed; ended = inside.ended; stop = inside.stop } in
    let finds = subst (λ h. FindsOn left (record was { held = h; packet = [] }) c.find.new.self (Ok c.in-Ok.found)) c.consume.ensures c.in-Ok.ensures.finds in
    rw (← c.self.view_is) (λ going bytes told.
    gives_piece left (record was { packet = [] }) c.find.new.self (Ok c.in-Ok.found) bytes finds (subst (λ (v : Finding g.row.S.Denot). v.ended ≡ true → IsAtEnd (left v.source)) c.self-2.view_is c.self-2.invariant.3)
    (λ e. (c.in-Ok.ensures.end e, (subst (Counted (record was { held = c.consume.new.self; packet = [] }) c.find.new.self) e c.in-Ok.ensures.counts).2)) told)

pub returns-in-Ok-clause-takes : goal.returns-in-Ok-clause-takes
returns-in-Ok-clause-takes g c =
    let inside = c.self.inside in
    let left = g.S.Source.left in
    let was : Finding g.row.S.Denot = record { source = inside.source; held = drop inside.handed inside.held; number = inside.number; packet = take inside.handed inside.held; tail = inside.tail; passed = inside.passed; ended = inside.ended; stop = inside.stop } in
    let finds = subst (λ h. FindsOn left (record was { held = h; packet = [] }) c.find.new.self (Ok c.in-Ok.found)) c.consume.ensures c.in-Ok.ensures.finds in
    subst (λ (v : Finding g.row.S.Denot). v.stop ≡ None → TakesPiece left v c.find.new.self (Ok c.in-Ok.found)) c.self.view_is (λ going. takes_piece left was [] c.find.new.self (Ok c.in-Ok.found) finds)

pub returns-in-Ok-clause-at_end : goal.returns-in-Ok-clause-at_end
returns-in-Ok-clause-at_end g c =
    let left = g.S.Source.left in
    subst (λ (v : Finding g.row.S.Denot). v.ended ≡ true → IsAtEnd (left v.source)) c.self-2.view_is c.self-2.invariant.3
