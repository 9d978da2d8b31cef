use Rattle.std.proofs.Common.{sym, ◌∙◌, subst, arith, refl}
use Rattle.std.specs.Prelude.{Ok, Err}
use Rattle.desk_core.specs.Desks.{fresh}
use Rattle.epg_report.specs.declared.status.Status.{Status}
use Rattle.epg_play.specs.Items.{Went}
use Rattle.epg_play.proofs.CourseFacts.{went_none}
use Rattle.epg_play.proofs.RestFacts.{stays_on}
use Rattle.epg_audit.specs.Audits.{DeskAudited, desk_airings}
use Rattle.epg_audit.proofs.Following.{follows_none}
use Rattle.epg_audit.proofs.Going.{added, audits_end, audits_other, audits_swap, checked, cycle_did, end_counts, own_entries, own_stops, own_went, script_did}
use Rattle.epg_audit.proofs.cycles.audit_rest.Goals as goal

pub items-init : goal.items-init
items-init g c =
    let ready = c.requires.ready in
    let begun = ready.begun in
    let mux = c.args.desk.now.desk.mux in
    record {
      going = c.requires.going;
      same = g.met.S.Source.same_at_once c.args.lines.now.source;
      read_later = omega arith;
      later = omega arith;
      between = ready.between;
      stays = record { ready = begun.ready; shift = refl; keeps = refl };
      audits = record {
        state = fresh mux;
        at = begun.at;
        shift = begun.shift;
        form = ready.form;
        went = subst (Went c.args.desk.now.shift g.S.Source.left c.args.lines.now c.args.lines.now (fresh mux) (fresh mux)) (sym begun.first)
            (went_none c.args.desk.now.shift g.S.Source.left c.args.lines.now (fresh mux));
        follows = λ nulls none. follows_none mux.rate nulls g.F.Source.left c.args.packets.now
            c.args.packets.now c.args.packets.now c.args.checker.now c.args.passed.now
            (ready.kind nulls none) ready.stands ready.first none;
      };
    }

pub returns-in-Err-check_on_air-clause-did : goal.returns-in-Err-check_on_air-clause-did
returns-in-Err-check_on_air-clause-did g c = λ nulls none.
    let i = c.items.invariant in
    let a = i.audits in
    let e = rw c.in-Ok-Swap.field-0-is at c.in-Ok-Swap.ensures in
    let mux = c.args.desk.now.desk.mux in
    let next = c.do_item.new.desk in
    let new = c.do_item.new.lines in
    let checks = c.in-Err-check_on_air.ensures.checks in
    let left = e.left c.args.lines.now (fresh mux) a.state a.at a.went in
    record {
      state = left.now;
      made = own_entries mux left.now next left.at (e.stays.keeps ∙ i.stays.keeps ∙ c.requires.ready.begun.keeps) (e.stays.shift ∙ a.shift);
      did = cycle_did nulls g.S.Source.left g.F.Source.left c.args.lines.now new c.args.packets.now c.items.packets c.check_on_air.new.packets (fresh mux) left.now
          _ c.check_on_air.new.checker c.check_on_air.new.passed next.last c.in-Err-check_on_air.status
          (added g.S.Source.left g.F.Source.left c.args.lines.now c.items.lines new c.args.packets.now c.items.packets c.args.desk.now c.items.desk next c.items.checker c.args.passed.now c.items.passed a e.stays.shift
          left c.check_on_air.new.packets c.check_on_air.new.checker c.check_on_air.new.passed (Err c.in-Err-check_on_air.status) checks)
          (own_went g.S.Source.left g.F.Source.left c.args.lines.now c.items.lines new c.args.packets.now c.items.packets c.args.desk.now c.items.desk next c.items.checker c.args.passed.now c.items.passed a e.stays.shift
          left.now left.goes_on)
          (checked g.S.Source.left g.F.Source.left c.args.lines.now c.items.lines new c.args.packets.now c.items.packets c.args.desk.now c.items.desk next c.items.checker c.args.passed.now c.items.passed a e.stays.shift
          left c.check_on_air.new.packets c.check_on_air.new.checker c.check_on_air.new.passed (Err c.in-Err-check_on_air.status) checks nulls none);
    }

pub items-preserved-in_default : goal.items-preserved-in_default
items-preserved-in_default g c =
    let i = c.items.invariant in
    let a = i.audits in
    let e = rw c.in-Ok-Swap.field-0-is at c.in-Ok-Swap.ensures in
    record {
      going = e.going;
      same = g.met.S.Source.same_later c.args.lines.now.source c.items.lines.source c.do_item.new.lines.source i.same e.read.same;
      read_later = omega (arith, i.read_later, e.read.later);
      later = omega (arith, i.later, c.in_default.ensures.later);
      between = c.in_default.ensures.between;
      stays = stays_on c.args.desk.now c.items.desk c.do_item.new.desk i.stays e.stays;
      audits = audits_swap g.S.Source.left g.F.Source.left c.args.lines.now c.items.lines c.do_item.new.lines c.args.packets.now c.items.packets c.args.desk.now c.items.desk c.do_item.new.desk c.items.checker c.args.passed.now c.items.passed a e.stays.shift
          (e.left c.args.lines.now (fresh c.args.desk.now.desk.mux) a.state a.at a.went) c.check_on_air.new.packets c.check_on_air.new.checker c.check_on_air.new.passed c.in_default.ensures.form c.in_default.ensures.checks;
    }

pub items-preserved : goal.items-preserved
items-preserved g c =
    let i = c.items.invariant in
    let a = i.audits in
    let e = rw c.in-Ok-Other.field-0-is at c.in-Ok-Other.ensures in
    record {
      going = e.going;
      same = g.met.S.Source.same_later c.args.lines.now.source c.items.lines.source c.do_item.new.lines.source i.same e.read.same;
      read_later = omega (arith, i.read_later, e.read.later);
      later = i.later;
      between = i.between;
      stays = stays_on c.args.desk.now c.items.desk c.do_item.new.desk i.stays e.stays;
      audits = audits_other g.S.Source.left g.F.Source.left c.args.lines.now c.items.lines c.do_item.new.lines c.args.packets.now c.items.packets c.args.desk.now c.items.desk c.do_item.new.desk c.items.checker c.args.passed.now c.items.passed a e.stays.shift
          (e.left c.args.lines.now (fresh c.args.desk.now.desk.mux) a.state a.at a.went);
    }

pub returns-in-Ok-End-clause-did : goal.returns-in-Ok-End-clause-did
returns-in-Ok-End-clause-did g c = λ nulls none.
    let i = c.items.invariant in
    let a = i.audits in
    let e = rw c.in-Ok-End.field-0-is at c.in-Ok-End.ensures in
    audits_end g.S.Source.left g.F.Source.left c.args.lines.now c.items.lines c.do_item.new.lines c.args.packets.now c.items.packets c.args.desk.now c.items.desk c.do_item.new.desk c.items.checker c.args.passed.now c.items.passed a e.stays.shift
    nulls none (e.left c.args.lines.now (fresh c.args.desk.now.desk.mux) a.state a.at a.went)
    (e.stays.keeps ∙ i.stays.keeps ∙ c.requires.ready.begun.keeps) i.between.at_end
    c.check_end.new.packets c.check_end.new.passed c.check_end.result c.check_end.ensures.ends

pub returns-in-Ok-End-clause-counted : goal.returns-in-Ok-End-clause-counted
returns-in-Ok-End-clause-counted g c = λ nulls bytes none told.
    let a = c.items.invariant.audits in
    let ends = c.check_end.ensures.ends a.state.mux.rate nulls c.args.packets.now
    (desk_airings a.state) c.items.checker (a.follows nulls none) in
    end_counts nulls g.S.Source.left g.F.Source.left c.args.lines.now c.do_item.new.lines c.args.packets.now ends.last c.check_end.new.packets (fresh c.args.desk.now.desk.mux) a.state c.items.checker c.check_end.new.passed bytes c.check_end.result
    ends.follows told ends.gives ends.number

pub returns-in-Err-clause-did : goal.returns-in-Err-clause-did
returns-in-Err-clause-did g c = λ nulls none.
    let i = c.items.invariant in
    let a = i.audits in
    let e = c.in-Err.ensures in
    let mux = c.args.desk.now.desk.mux in
    let next = c.do_item.new.desk in
    let new = c.do_item.new.lines in
    let left = e.left c.args.lines.now (fresh mux) a.state a.at a.went in
    subst (λ (s : Status). DeskAudited nulls g.S.Source.left g.F.Source.left c.args.lines.now new c.args.packets.now c.args.desk.now next (Err s)) (sym c.status_of.ensures)
    (record {
      state = left.now;
      made = own_entries mux left.now next left.at (e.stays.keeps ∙ i.stays.keeps ∙ c.requires.ready.begun.keeps) (e.stays.shift ∙ a.shift);
      did = script_did nulls g.S.Source.left g.F.Source.left c.args.lines.now new c.args.packets.now c.items.packets c.items.packets (fresh mux) left.now a.state c.items.checker c.items.passed c.in-Err.stop
          (a.follows nulls none) i.between.at_end left.did e.behind
          (own_stops g.S.Source.left g.F.Source.left c.args.lines.now c.items.lines new c.args.packets.now c.items.packets c.args.desk.now c.items.desk next c.items.checker c.args.passed.now c.items.passed a e.stays.shift
          left.now (Err c.in-Err.stop) left.goes_on);
    })
