use Rattle.std.proofs.Common.{◌≡◌, ◌∙◌, ap, refl}
use Rattle.std.specs.Prelude.{codes}
use Rattle.si_time.specs.Readings.{has_shape}
use Rattle.script_notes.proofs.LineFacts.{event_is}
use Rattle.script_notes.proofs.why_fields.why_event.Goals as goal

pub returns : goal.returns
returns c =
    let ten = event_is c.args.k c.args.fields.now c.event-item.result c.start-item.result c.duration-item.result c.country-item.result c.rating-item.result c.genres-item.result
    c.in-len10-up.len_at_least c.event-item.is c.start-item.is c.duration-item.is c.country-item.is c.rating-item.is c.genres-item.is in
    let starts : c.has_shape-starts.result ≡ has_shape (codes "dddd-dd-ddTdd:dd:ddZ") c.start-item.result =
    c.has_shape-starts.ensures.value ∙ ap (has_shape (codes "dddd-dd-ddTdd:dd:ddZ")) (c.as_bytes.ensures.value ∙ c.as_str.ensures.value) in
    let lasts : c.has_shape-lasts.result ≡ has_shape (codes "dd:dd:dd") c.duration-item.result =
    c.has_shape-lasts.ensures.value ∙ ap (has_shape (codes "dd:dd:dd")) (c.as_bytes-2.ensures.value ∙ c.as_str-2.ensures.value) in
    rw (ten, c.or.ensures, c.why_id.ensures, c.or-stamp.ensures, c.unless-2.ensures, c.or-length.ensures, c.unless.ensures, c.or-rated.ensures, c.why_rating.ensures, c.in_ok-listed.ensures, starts, lasts) refl
