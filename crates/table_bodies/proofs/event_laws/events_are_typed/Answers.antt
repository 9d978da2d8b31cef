use Rattle.std.proofs.Common.{IfSome, sym, subst}
use Rattle.descriptors.specs.ParentalRating.{HasThreeLetters}
use Rattle.table_bodies.proofs.event_laws.events_are_typed.Goals as goal

pub returns-in-Some : goal.returns-in-Some
returns-in-Some c = record {
  id = c.is_word.ensures;
  language = c.is_code.ensures;
  name = record { utf8 = c.as_str-name.ensures.utf8; clean = c.as_str-name.ensures.clean };
  short = record { utf8 = c.as_str-short.ensures.utf8; clean = c.as_str-short.ensures.clean };
  extended = record { utf8 = c.as_str-extended.ensures.utf8; clean = c.as_str-extended.ensures.clean };
  rating = subst (λ r. IfSome r HasThreeLetters) (sym c.in-Some.is) c.is_code-in-Some.ensures;
}

pub returns-in_default : goal.returns-in_default
returns-in_default c = record {
  id = c.is_word.ensures;
  language = c.is_code.ensures;
  name = record { utf8 = c.as_str-name.ensures.utf8; clean = c.as_str-name.ensures.clean };
  short = record { utf8 = c.as_str-short.ensures.utf8; clean = c.as_str-short.ensures.clean };
  extended = record { utf8 = c.as_str-extended.ensures.utf8; clean = c.as_str-extended.ensures.clean };
  rating = subst (λ r. IfSome r HasThreeLetters) (sym c.in_default.is) tt;
}
