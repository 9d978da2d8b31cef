use Rattle.std.proofs.Common.{◌≡◌, ◌<◌, ◌++◌, ℕ, List, sym, ap, ap₂, ◌∙◌, subst, subst₂, arith, length, get_or, take, drop, map}
use Rattle.std.specs.Prelude.{count_by}
use Rattle.std.specs.List.{AllByRecursion}
use Rattle.std.proofs.lemmas.List.{take_at}
use Rattle.std.proofs.lemmas.List.Elements.{All-from_recursion}
use Rattle.air_model.specs.Air.{Sent, at_places}
use Rattle.air_model.proofs.Planned.{all_at}
use Rattle.air_model.specs.declared.placed.Placed.{Placed}
use Rattle.air_model.specs.Laying.{IsPlaced, sent_at}
use Rattle.air_audit.specs.declared.lanes.Lane.{Lane}
use Rattle.air_audit.specs.Fronts.{all_waiting, to_come_on}
use Rattle.air_audit.specs.Audits.{on_pid}
use Rattle.air_audit.specs.Progress.{next_on, is_busy, all_shown, AreLinked, AreFresh, AreWithin}
use Rattle.air_audit.proofs.Begins.{length-in_order, all_begun, all_within}
use Rattle.air_audit.proofs.progress.Progress.of.Goals as goal

pub put_in_order-requires-clause-within : goal.put_in_order-requires-clause-within
put_in_order-requires-clause-within c =
    subst₂ (λ (ps : List Placed) (o : List ℕ). AllByRecursion (λ (at : ℕ). at < length ps) o) (sym c.deref.ensures.value) (sym c.deref-2.ensures.value) c.requires.within

pub link-requires-clause-pids : goal.link-requires-clause-pids
link-requires-clause-pids c =
    let order = c.args.room.order.items in
    let each = c.args.laid.placed.items in
    let bytes = c.args.laid.bytes.items in
    let placed = c.put_in_order.new.placed.items in
    let placed_is : placed ≡ at_places each order = c.put_in_order.ensures ∙ ap₂ (λ (x : List Placed) (y : List ℕ). at_places x y) c.deref.ensures.value c.deref-2.ensures.value in
    let fit : AllByRecursion (IsPlaced (length bytes)) placed = subst (AllByRecursion (IsPlaced (length bytes))) (sym placed_is) (all_at (IsPlaced (length bytes)) each order c.requires.placed) in
    let many : length placed ≡ length order = ap length placed_is ∙ length-in_order each order c.requires.within in
    subst (λ (ps : List Placed). (k : ℕ) (d : Placed) → k < length ps → (get_or ps k d).pid < 8192) (sym c.deref-3.ensures.value) (λ k d lt. (All-from_recursion (IsPlaced (length bytes)) placed fit k d lt).pid)

pub link-requires-clause-many : goal.link-requires-clause-many
link-requires-clause-many c =
    let order = c.args.room.order.items in
    let each = c.args.laid.placed.items in
    let bytes = c.args.laid.bytes.items in
    let placed = c.put_in_order.new.placed.items in
    let placed_is : placed ≡ at_places each order = c.put_in_order.ensures ∙ ap₂ (λ (x : List Placed) (y : List ℕ). at_places x y) c.deref.ensures.value c.deref-2.ensures.value in
    let fit : AllByRecursion (IsPlaced (length bytes)) placed = subst (AllByRecursion (IsPlaced (length bytes))) (sym placed_is) (all_at (IsPlaced (length bytes)) each order c.requires.placed) in
    let many : length placed ≡ length order = ap length placed_is ∙ length-in_order each order c.requires.within in
    omega (arith, many, c.requires.ready.links, ap length c.deref-3.ensures.value, ap length c.deref_mut.ensures.value)

pub link-requires-clause-idle : goal.link-requires-clause-idle
link-requires-clause-idle c =
    let order = c.args.room.order.items in
    let each = c.args.laid.placed.items in
    let bytes = c.args.laid.bytes.items in
    let placed = c.put_in_order.new.placed.items in
    let placed_is : placed ≡ at_places each order = c.put_in_order.ensures ∙ ap₂ (λ (x : List Placed) (y : List ℕ). at_places x y) c.deref.ensures.value c.deref-2.ensures.value in
    let fit : AllByRecursion (IsPlaced (length bytes)) placed = subst (AllByRecursion (IsPlaced (length bytes))) (sym placed_is) (all_at (IsPlaced (length bytes)) each order c.requires.placed) in
    let many : length placed ≡ length order = ap length placed_is ∙ length-in_order each order c.requires.within in
    let places : length order ≡ length c.deref-3.result.now = omega (arith, many, ap length c.deref-3.ensures.value) in
    subst₂ (λ (n : ℕ) (ls : List Lane). AreFresh (λ (pid : ℕ). n) ls) places (sym c.deref_mut-2.ensures.value) c.requires.ready.lanes

pub invariant_of-result : goal.invariant_of-result
invariant_of-result c =
    let order = c.args.room.order.items in
    let each = c.args.laid.placed.items in
    let bytes = c.args.laid.bytes.items in
    let placed = c.put_in_order.new.placed.items in
    let placed_is : placed ≡ at_places each order = c.put_in_order.ensures ∙ ap₂ (λ (x : List Placed) (y : List ℕ). at_places x y) c.deref.ensures.value c.deref-2.ensures.value in
    let fit : AllByRecursion (IsPlaced (length bytes)) placed = subst (AllByRecursion (IsPlaced (length bytes))) (sym placed_is) (all_at (IsPlaced (length bytes)) each order c.requires.placed) in
    let many : length placed ≡ length order = ap length placed_is ∙ length-in_order each order c.requires.within in
    let linked : AreLinked placed c.link.new.links = subst (λ (ps : List Placed). AreLinked ps c.link.new.links) c.deref-3.ensures.value c.link.ensures.linked in
    let fresh : AreFresh (λ (pid : ℕ). next_on pid placed 0) c.link.new.lanes = subst (λ (ps : List Placed). AreFresh (λ (pid : ℕ). next_on pid ps 0) c.link.new.lanes) c.deref-3.ensures.value c.link.ensures.first in
    let lanes_is : take c.args.room.lanes.len (c.link.new.lanes ++ drop (length c.link.new.lanes) c.args.room.lanes.items) ≡ c.link.new.lanes =
    take_at c.link.new.lanes (drop (length c.link.new.lanes) c.args.room.lanes.items) c.args.room.lanes.len (omega (arith, fresh.many, c.requires.ready.lanes.many, c.args.room.lanes.ok.0)) in
    let links_is : take c.args.room.links.len (c.link.new.links ++ drop (length c.link.new.links) c.args.room.links.items) ≡ c.link.new.links =
    take_at c.link.new.links (drop (length c.link.new.links) c.args.room.links.items) c.args.room.links.len (omega (arith, many, linked.many, c.requires.ready.links, c.args.room.links.ok.0)) in
    let count : c.count_busy-busy.result ≡ count_by (is_busy (length placed)) c.link.new.lanes =
    c.count_busy-busy.ensures ∙ ap₂ (λ (n : ℕ) (ls : List Lane). count_by (is_busy n) ls) (let e : c.len.result ≡ length placed = omega (arith, c.len.ensures, c.put_in_order.new.placed.ok.0) in e) (c.deref-4.ensures.value ∙ lanes_is) in
    subst₂ (λ (x : List ℕ) (ls : List Lane). AreWithin bytes placed x ls c.count_busy-busy.result) (sym links_is) (sym lanes_is)
    (all_within bytes placed c.link.new.links c.link.new.lanes c.count_busy-busy.result (All-from_recursion (IsPlaced (length bytes)) placed fit) linked fresh count)

pub returns : goal.returns
returns c pid =
    let order = c.args.room.order.items in
    let each = c.args.laid.placed.items in
    let bytes = c.args.laid.bytes.items in
    let placed = c.put_in_order.new.placed.items in
    let placed_is : placed ≡ at_places each order = c.put_in_order.ensures ∙ ap₂ (λ (x : List Placed) (y : List ℕ). at_places x y) c.deref.ensures.value c.deref-2.ensures.value in
    let fit : AllByRecursion (IsPlaced (length bytes)) placed = subst (AllByRecursion (IsPlaced (length bytes))) (sym placed_is) (all_at (IsPlaced (length bytes)) each order c.requires.placed) in
    let many : length placed ≡ length order = ap length placed_is ∙ length-in_order each order c.requires.within in
    let linked : AreLinked placed c.link.new.links = subst (λ (ps : List Placed). AreLinked ps c.link.new.links) c.deref-3.ensures.value c.link.ensures.linked in
    let fresh : AreFresh (λ (pid : ℕ). next_on pid placed 0) c.link.new.lanes = subst (λ (ps : List Placed). AreFresh (λ (pid : ℕ). next_on pid ps 0) c.link.new.lanes) c.deref-3.ensures.value c.link.ensures.first in
    let lanes_is : take c.args.room.lanes.len (c.link.new.lanes ++ drop (length c.link.new.lanes) c.args.room.lanes.items) ≡ c.link.new.lanes =
    take_at c.link.new.lanes (drop (length c.link.new.lanes) c.args.room.lanes.items) c.args.room.lanes.len (omega (arith, fresh.many, c.requires.ready.lanes.many, c.args.room.lanes.ok.0)) in
    ap (λ (ls : List Lane). to_come_on (all_shown bytes placed ls) pid) lanes_is ∙ all_begun bytes placed c.link.new.lanes fit fresh pid
    ∙ ap (λ (ss : List Sent). all_waiting (on_pid pid ss)) (ap (map (sent_at bytes)) placed_is)
