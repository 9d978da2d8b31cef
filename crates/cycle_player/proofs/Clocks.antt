-- A clock that is kept tells what the clock of the air tells.
use Rattle.std.proofs.Common.{◌≡◌, ℕ, ◌+◌, ◌*◌, ◌/◌, ◌%◌, ◌<◌, Bool, true, false, min, List, [], ◌∷◌, ◌++◌, length, refl, sym, ap, ap₂, ◌∙◌, arith, le-leb, nat_le}
use Rattle.std.proofs.lemmas.Bool.{leb-true, leb-false, lt-leb}
use Rattle.std.specs.Prelude.{if◌then◌else◌}
use Rattle.version_book.specs.Airings.{AiredTables}
use Rattle.air_model.specs.Air.{Aired}
use Rattle.cycle_timing.specs.Clock.{Clock, later, at_swap, told_at}
use Rattle.cycle_timing.specs.Cycle.{clock_after, clock_of}
use Rattle.cycle_timing.proofs.Growing.{clock_push}
use Rattle.cycle_player.specs.Clock.{capped}
use Rattle.cycle_player.specs.Playing.{clock_kept}

abbrev made : ℕ → ℕ → Clock
made moment bits = record { moment = moment; bits = bits }

pub capped_later : (rate n : ℕ) (c : Clock) → capped (later rate n (capped c)) ≡ capped (later rate n c)
capped_later rate n c =
    let k = (c.bits + n * 1504) / rate in
    let e : min 18446744073709551615 (min 18446744073709551615 c.moment + k) ≡ min 18446744073709551615 (c.moment + k) = omega arith in
    ap (λ (m : ℕ). made m ((c.bits + n * 1504) % rate)) e

pub swap_capped : (moment : ℕ) (c : Clock) → moment < 65536 * 86400 → at_swap moment (capped c) ≡ capped (at_swap moment c)
swap_capped moment c lt = go (nat_le moment c.moment) refl
  where
    go : (b : Bool) → nat_le moment c.moment ≡ b → at_swap moment (capped c) ≡ capped (if b then c else made moment 0)
    go true e =
        let le = leb-true moment c.moment e in
        ap (λ (b : Bool). if b then capped c else made moment 0) (le-leb moment (min 18446744073709551615 c.moment) (omega arith))
    go false e =
        let le = leb-false moment c.moment e in
        let same : moment ≡ min 18446744073709551615 moment = omega arith in
        ap (λ (b : Bool). if b then capped c else made moment 0) (lt-leb moment (min 18446744073709551615 c.moment) (omega arith)) ∙ ap (λ (m : ℕ). made m 0) same

pub told_capped : (rate n : ℕ) (c : Clock) → told_at rate (capped c) n ≡ told_at rate c n
told_capped rate n c = omega arith

-- the clock of a cycle, and that at its end
pub clock_begins : (rate : ℕ) (xs : List Aired) (a : AiredTables) (kept : Clock) → kept ≡ clock_kept rate xs → a.moment < 65536 * 86400 → at_swap a.moment kept ≡ capped (clock_of rate xs a)
clock_begins rate xs a kept is lt = ap (at_swap a.moment) is ∙ swap_capped a.moment (clock_after rate (made 0 0) xs) lt

pub clock_ends : (rate : ℕ) (xs : List Aired) (x : Aired) (n : ℕ) (begun : Clock) → begun ≡ capped (clock_of rate xs x.airing) → n ≡ length x.packets
    → capped (later rate n begun) ≡ clock_kept rate (xs ++ x ∷ [])
clock_ends rate xs x n begun is size =
    ap₂ (λ (k : ℕ) (c : Clock). capped (later rate k c)) size is ∙ capped_later rate (length x.packets) (clock_of rate xs x.airing) ∙ ap capped (sym (clock_push rate (made 0 0) xs x))
