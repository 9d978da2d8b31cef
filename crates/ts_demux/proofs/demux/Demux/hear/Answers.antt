use Rattle.std.proofs.Common.{◌≡◌, ◌<◌, ℕ, List, sym, ap, ◌∙◌, subst}
use Rattle.std.specs.Prelude.{IfOk, Ok}
use Rattle.ts_packets.specs.Bytes.{shape_in}
use Rattle.ts_packets.specs.declared.shape.Shape.TheVariants as shape
use Rattle.ts_demux.specs.declared.section.RawSection.{RawSection}
use Rattle.ts_demux.specs.Arrivals.{Arrival.Gap, Arrival.Came, load_in}
use Rattle.ts_demux.specs.Keeping.{DemuxStandsFor}
use Rattle.ts_demux.proofs.Standing.{nothing_came, one_came, one_ended, passes, gap_came, gap_told, load_came, load_told, small_pid}
use Rattle.si_lists.proofs.Outcomes.{ok_more}
use Rattle.ts_demux.proofs.demux.Demux.hear.Goals as goal

pub returns-in-Pass-clause-heard : goal.returns-in-Pass-clause-heard
returns-in-Pass-clause-heard c past stands =
    let packet = c.args.packet.now in
    let is : shape_in packet ≡ Ok shape.Pass = c.requires ∙ ap Ok c.in-Pass.is in
    c.new.ensures ∙ sym (nothing_came past packet c.args.self.now (passes packet is) stands).0

pub returns-in-Pass-clause-stands : goal.returns-in-Pass-clause-stands
returns-in-Pass-clause-stands c past stands =
    let packet = c.args.packet.now in
    let is : shape_in packet ≡ Ok shape.Pass = c.requires ∙ ap Ok c.in-Pass.is in
    (nothing_came past packet c.args.self.now (passes packet is) stands).1

pub returns-in-Gap-clause-heard : goal.returns-in-Gap-clause-heard
returns-in-Gap-clause-heard c past stands =
    let packet = c.args.packet.now in
    let pid = c.in-Gap.pid in
    let is : shape_in packet ≡ Ok (shape.Gap pid) = c.requires ∙ ap Ok c.in-Gap.is in
    let its = gap_told packet pid is in
    let small : pid < 8192 = subst (λ (n : ℕ). n < 8192) (sym its) (small_pid packet (c.fits-packet 2)) in
    c.new-in-Gap.ensures ∙ one_ended past packet c.args.self.now pid Gap its small (gap_came packet pid is) stands

pub returns-in-Gap-clause-stands : goal.returns-in-Gap-clause-stands
returns-in-Gap-clause-stands c past stands =
    let packet = c.args.packet.now in
    let pid = c.in-Gap.pid in
    let is : shape_in packet ≡ Ok (shape.Gap pid) = c.requires ∙ ap Ok c.in-Gap.is in
    let its = gap_told packet pid is in
    let small : pid < 8192 = subst (λ (n : ℕ). n < 8192) (sym its) (small_pid packet (c.fits-packet 2)) in
    one_came past packet c.self.inside.places c.forget.new.self pid Gap its small (gap_came packet pid is) c.forget.ensures (subst (DemuxStandsFor past) (sym c.self.view_is) stands)

pub returns-in-Load-clause-heard : goal.returns-in-Load-clause-heard
returns-in-Load-clause-heard c past stands =
    let packet = c.args.packet.now in
    let pid = c.in-Load.pid in
    let is : shape_in packet ≡ Ok (shape.Load pid c.in-Load.start c.in-Load.counter c.in-Load.at) = c.requires ∙ ap Ok c.in-Load.is in
    let its = (load_told packet pid c.in-Load.counter c.in-Load.at c.in-Load.start is).0 in
    let small : pid < 8192 = subst (λ (n : ℕ). n < 8192) (sym its) (small_pid packet (c.fits-packet 2)) in
    let came = load_came packet pid c.in-Load.counter c.in-Load.at c.in-Load.start is in
    let x = Came (load_in c.in-Load.start c.in-Load.counter c.in-Load.at packet) in
    let ended = one_ended past packet c.self.inside.places pid x its small came (subst (DemuxStandsFor past) (sym c.self.view_is) stands) in
    subst (λ (y : List RawSection). IfOk c.hear.result (λ sections. sections ≡ y)) ended c.hear.ensures.given

pub returns-in-Load-clause-stands : goal.returns-in-Load-clause-stands
returns-in-Load-clause-stands c past stands =
    let packet = c.args.packet.now in
    let pid = c.in-Load.pid in
    let is : shape_in packet ≡ Ok (shape.Load pid c.in-Load.start c.in-Load.counter c.in-Load.at) = c.requires ∙ ap Ok c.in-Load.is in
    let its = (load_told packet pid c.in-Load.counter c.in-Load.at c.in-Load.start is).0 in
    let small : pid < 8192 = subst (λ (n : ℕ). n < 8192) (sym its) (small_pid packet (c.fits-packet 2)) in
    let came = load_came packet pid c.in-Load.counter c.in-Load.at c.in-Load.start is in
    let x = Came (load_in c.in-Load.start c.in-Load.counter c.in-Load.at packet) in
    ok_more c.hear.result _ _ (λ after. one_came past packet c.self.inside.places c.hear.new.self pid x its small came after (subst (DemuxStandsFor past) (sym c.self.view_is) stands)) c.hear.ensures.kept
