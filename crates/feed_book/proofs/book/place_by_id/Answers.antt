use Rattle.std.proofs.Common.{ℕ, ◌∙◌, ap, sym}
use Rattle.std.specs.Prelude.{nat_lt, position}
use Rattle.guide_limits.specs.KeptService.{KeptService}
use Rattle.mux_model.proofs.Placing.{place_found, place_none}
use Rattle.feed_book.specs.Books.{has_lower_kept_id}
use Rattle.feed_book.proofs.book.place_by_id.Goals as goal

pub returns-in-Some-clause-place : goal.returns-in-Some-clause-place
returns-in-Some-clause-place c = λ kept same.
    place_found has_lower_kept_id kept c.args.services.now c.in-Some.at
    (ap (λ (n : ℕ). position (λ (other : KeptService). nat_lt n other.guide.service) c.args.services.now) same ∙ sym c.first_above.ensures ∙ c.in-Some.is)

pub returns-in-None-clause-place : goal.returns-in-None-clause-place
returns-in-None-clause-place c = λ kept same.
    place_none has_lower_kept_id kept c.args.services.now
    (ap (λ (n : ℕ). position (λ (other : KeptService). nat_lt n other.guide.service) c.args.services.now) same ∙ sym c.first_above.ensures ∙ c.in-None.is)
