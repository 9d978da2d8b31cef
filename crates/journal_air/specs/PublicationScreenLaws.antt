-- Laws of what a receiver shows of a publication.
use Rattle.std.specs.Prelude.{◌≡◌, ℕ}
use Rattle.guide_model.specs.declared.guide.Guide.{Guide}
use Rattle.mux_model.specs.declared.mux.Mux.{Mux}
use Rattle.mux_model.specs.Sound.{IsSoundWithIds}
use Rattle.guide_limits.specs.Limits.{IsGuideWithin}
use Rattle.publication.specs.EitLaws.{HasTypedEvents}
use Rattle.guide_screen.specs.View.{View}
use Rattle.guide_screen.specs.Screen.{heard_of}
use Rattle.guide_screen.specs.declared.need.Heard.TheVariants.{Whole}
use Rattle.publication.specs.Tables.{HasServicesOf}
use Rattle.journal_air.specs.Screen.{screen_of}
use Rattle.journal_air.specs.PublicationScreenShown.{HasPublication, HasKeptNames}

-- A view that has a publication needs nothing more, and shows its screen.
abbrev pub PublicationIsShown : Type 0
PublicationIsShown =
    (mux : Mux) (guide : Guide) (clock : ℕ) (V : View) → IsSoundWithIds mux → HasServicesOf mux guide → IsGuideWithin guide → HasTypedEvents guide → HasKeptNames mux guide
    → HasPublication mux guide clock V → heard_of V ≡ Whole (screen_of mux guide clock)
