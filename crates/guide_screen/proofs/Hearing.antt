-- A receiver shows the screen exactly where it needs nothing.
use Rattle.std.proofs.Common.{◌≡◌, ℕ, List, [], ◌∷◌, ◌++◌, Option, Some, None, refl, sym, ap, ◌∙◌}
use Rattle.std.specs.Prelude.{◌≢◌, is_some, option_map}
use Rattle.si_lists.proofs.Outcomes.{some_same}
use Rattle.si_time.specs.declared.moment.Moment.{Moment}
use Rattle.sub_collect.specs.Collectors.{KeysHeard}
use Rattle.guide_screen.specs.declared.contents.Latest.{Latest}
use Rattle.guide_screen.specs.declared.screen.Named.{Named}
use Rattle.guide_screen.specs.Holding.{Holds, named_by, named}
use Rattle.section_codec.specs.declared.table.Key.{Key}
use Rattle.guide_model.specs.declared.screen.Screen.{Screen}
use Rattle.guide_screen.specs.declared.need.Need.{Need}
use Rattle.guide_screen.specs.declared.need.Need.TheVariants.{Pat, Nit, Sdt, Clock}
use Rattle.guide_screen.specs.declared.need.Heard.TheVariants.{Whole, Wanting}
use Rattle.guide_screen.specs.View.{View, sdt_of}
use Rattle.guide_screen.specs.Needs.{unless, unmet_of, wants, needs}
use Rattle.guide_screen.specs.Screen.{heard_by, screen, WantingIsNeeds, WholeNeedsNothing, heard_of}

-- the needs of what is missing of these, and more
needs_with : Option Key → Option Key → Option Key → Option ℕ → List Need → List Need
needs_with pat nit sdt clock more =
    unless Pat (is_some pat) ++ unless Nit (is_some nit) ++ unless Sdt (is_some sdt) ++ unless Clock (is_some clock) ++ more

wanting_is : (V : View) (pat nit sdt : Option Key) (clock : Option ℕ) (more ns wanting : List Need) → needs_with pat nit sdt clock more ≡ ns
    → heard_by V pat nit sdt clock ns ≡ Wanting wanting → (wanting ≡ ns) × (ns ≢ [])
unfolding needs_with
wanting_is V None nit sdt clock more ns wanting e f = (cc, λ z. cc)
wanting_is V (Some p) None sdt clock more ns wanting e f = (cc, λ z. cc)
wanting_is V (Some p) (Some n) None clock more ns wanting e f = (cc, λ z. cc)
wanting_is V (Some p) (Some n) (Some s) None more ns wanting e f = (cc, λ z. cc)
wanting_is V (Some p) (Some n) (Some s) (Some c) more [] wanting e f = cc
wanting_is V (Some p) (Some n) (Some s) (Some c) more (x ∷ ns) wanting e f = (cc, λ z. cc)

pub wanting_needs : WantingIsNeeds
unfolding needs_with
wanting_needs V wanting f = wanting_is V V.pat V.nit (sdt_of V) V.clock (unmet_of V.content (wants V)) (needs V) wanting refl f

whole_is : (V : View) (pat nit sdt : Option Key) (clock : Option ℕ) (ns : List Need) (shown : Screen)
    → heard_by V pat nit sdt clock ns ≡ Whole shown → ns ≡ []
whole_is V None nit sdt clock ns shown f = cc
whole_is V (Some p) None sdt clock ns shown f = cc
whole_is V (Some p) (Some n) None clock ns shown f = cc
whole_is V (Some p) (Some n) (Some s) None ns shown f = cc
whole_is V (Some p) (Some n) (Some s) (Some c) [] shown f = refl
whole_is V (Some p) (Some n) (Some s) (Some c) (x ∷ ns) shown f = cc

whole_by : (V : View) (pat nit sdt : Option Key) (clock : Option ℕ) (more ns : List Need) → needs_with pat nit sdt clock more ≡ ns → ns ≡ []
    → (shown : Screen) × (heard_by V pat nit sdt clock ns ≡ Whole shown)
unfolding needs_with
whole_by V None nit sdt clock more ns e f = cc
whole_by V (Some p) None sdt clock more ns e f = cc
whole_by V (Some p) (Some n) None clock more ns e f = cc
whole_by V (Some p) (Some n) (Some s) None more ns e f = cc
whole_by V (Some p) (Some n) (Some s) (Some c) more [] e f = (screen V p n s c, refl)
whole_by V (Some p) (Some n) (Some s) (Some c) more (x ∷ ns) e f = cc

pub whole_needs_nothing : WholeNeedsNothing
unfolding needs_with
whole_needs_nothing V = (
  λ h. whole_is V V.pat V.nit (sdt_of V) V.clock (needs V) h.0 h.1,
  λ e. whole_by V V.pat V.nit (sdt_of V) V.clock (unmet_of V.content (wants V)) (needs V) refl e,
)

-- ---- what code holds

named_all : (pat nit sdt : Option Key) (clock : Option Moment) (of : Named) → named_by pat nit sdt clock ≡ Some of
    → (pat ≡ Some of.pat) × (nit ≡ Some of.nit) × (sdt ≡ Some of.sdt) × (clock ≡ Some of.clock)
named_all None nit sdt clock of e = cc
named_all (Some p) None sdt clock of e = cc
named_all (Some p) (Some n) None clock of e = cc
named_all (Some p) (Some n) (Some s) None of e = cc
named_all (Some p) (Some n) (Some s) (Some c) of e =
    let same : Named = record { pat = p; nit = n; sdt = s; clock = c } in
    let is : same ≡ of = some_same e in (
      ap (λ (x : Named). Some x.pat) is,
      ap (λ (x : Named). Some x.nit) is,
      ap (λ (x : Named). Some x.sdt) is,
      ap (λ (x : Named). Some x.clock) is,
    )

-- where all that a screen shows is there and no need is left, it is shown
pub shown_whole : (collector : KeysHeard) (latest : Latest) (V : View) (of : Named) (shown : Screen)
    → Holds collector latest V → named latest ≡ Some of
    → needs V ≡ [] → shown ≡ screen V of.pat of.nit of.sdt of.clock.0 → Whole shown ≡ heard_of V
shown_whole collector latest V of shown holds all nothing is =
    let each = named_all latest.pat latest.nit latest.sdt latest.clock of all in
    let pat = holds.pat ∙ each.0 in
    let nit = holds.nit ∙ each.1 in
    let sdt = holds.sdt ∙ each.2 in
    let clock = holds.clock ∙ ap (option_map (λ (at : Moment). at.0)) each.3 in
    ap (λ (x : Screen). Whole x) is ∙ sym (λ i. heard_by V (pat i) (nit i) (sdt i) (clock i) (nothing i))
