use Rattle.std.proofs.Common.{◌∙◌, sym, ap}
use Rattle.std.specs.Prelude.{nat_le}
use Rattle.mux_config.specs.Descriptions.{has_no_place, local_in, other_in, service_in}
use Rattle.mux_config.proofs.RecordFacts.{counted}
use Rattle.mux_config.proofs.kinds.has_no_place.Goals as goal

pub returns-in-Service : goal.returns-in-Service
returns-in-Service c =
    ap (nat_le 64) (c.count_of.ensures ∙ counted service_in c.args.records.now) ∙ ap (has_no_place c.args.records.now) (sym c.in-Service.is)

pub returns-in-Part : goal.returns-in-Part
returns-in-Part c = c.lacks_room.ensures ∙ ap (has_no_place c.args.records.now) (sym c.in-Part.is)

pub returns-in-Local : goal.returns-in-Local
returns-in-Local c =
    ap (nat_le 16) (c.count_of-in-Local.ensures ∙ counted local_in c.args.records.now) ∙ ap (has_no_place c.args.records.now) (sym c.in-Local.is)

pub returns-in-Elsewhere : goal.returns-in-Elsewhere
returns-in-Elsewhere c =
    ap (nat_le 15) (c.count_of-in-Elsewhere.ensures ∙ counted other_in c.args.records.now) ∙ ap (has_no_place c.args.records.now) (sym c.in-Elsewhere.is)

pub returns-in-Remote : goal.returns-in-Remote
returns-in-Remote c = c.lacks_stream.ensures ∙ ap (has_no_place c.args.records.now) (sym c.in-Remote.is)
