-- The shows of a service: their ids count on, and each begins where the one before ends.
use Rattle.std.proofs.Common.{◌≡◌, ◌≤◌, ◌<◌, ◌+◌, ◌-◌, ◌/◌, ◌%◌, ℕ, zero, suc, Bool, true, false, List, [], ◌∷◌, length, refl, arith}
use Rattle.std.specs.Prelude.{nat_lt, ◌==◌, if◌then◌else◌}
use Rattle.std.specs.List.{AllByRecursion}
use Rattle.std.proofs.lemmas.Bool.Decides.{nat_tests}
use Rattle.feed_book.proofs.Timeline.{all-filter}
use Rattle.feed_book.proofs.Indexed.{length-filter-le}
use Rattle.si_workload.specs.declared.shows.Show.{Show}
use Rattle.si_workload.specs.Shows.{state_behind, drawn, first_state, show_at, shows_from, shows_of, shows_on}

-- a show within the 14 days
pub record IsShow (s : Show) : Type 0 where
  pub starts : s.start < 1344
  pub some : 1 ≤ s.quarters
  pub most : s.quarters ≤ 8
  pub title : s.title < 1000

-- shows with ids from this one on, of which the first has this start
abbrev pub IsChain : ℕ → ℕ → List Show → Type 0
IsChain id start [] = Unit {0}
IsChain id start (s ∷ shows) = (s.id ≡ id) × (s.start ≡ start) × IsShow s × IsChain (id + 1) (start + s.quarters) shows

abbrev quarters_of : ℕ → ℕ
quarters_of state = 1 + drawn (state_behind state) % 8

quarters_most : (n : ℕ) → 1 + n % 8 ≤ 8
quarters_most n = omega arith

title_most : (n : ℕ) → n % 1000 < 1000
title_most n = omega arith

some_quarters : (n : ℕ) → 1 ≤ 1 + n % 8
some_quarters n = omega arith

less : (start : ℕ) → nat_lt start 1344 ≡ true → start < 1344
less start e = grind (arith, nat_tests)

chain_from : (most id start state : ℕ) → IsChain id start (shows_from most id start state)
unfolding shows_from
chain_from zero id start state = tt
chain_from (suc most) id start state =
    go (nat_lt start 1344) (λ (e : nat_lt start 1344 ≡ true). less start e) (chain_from most (id + 1) (start + quarters_of state) (state_behind (state_behind state)))
  where
    go : (b : Bool) → (b ≡ true → start < 1344) → IsChain (id + 1) (start + quarters_of state) (shows_from most (id + 1) (start + quarters_of state) (state_behind (state_behind state)))
        → IsChain id start (if b then show_at id start state ∷ shows_from most (id + 1) (start + quarters_of state) (state_behind (state_behind state)) else [])
    go true lt more = (refl, refl, record { starts = lt refl; some = some_quarters (drawn (state_behind state)); most = quarters_most (drawn (state_behind state)); title = title_most (drawn (state_behind (state_behind state))) }, more)
    go false lt more = tt

pub chain_of : (number service : ℕ) → IsChain 1 0 (shows_of number service)
chain_of number service = chain_from 1344 1 0 (first_state number service)

-- ---- what each show has

-- a show whose id is no larger than the number of quarters
pub record IsMadeShow (s : Show) : Type 0 where
  pub id : s.id ≤ 1344
  pub show : IsShow s

pub chain_made : (id start : ℕ) (shows : List Show) → id ≤ start + 1 → IsChain id start shows → AllByRecursion IsMadeShow shows
chain_made id start [] le h = tt
chain_made id start (s ∷ shows) le (i, t, is, more) =
    (record { id = (let a = is.starts in omega (arith, i, t, le, a)); show = is }, chain_made (id + 1) (start + s.quarters) shows (let a = is.some in omega (arith, le, a)) more)

pub chain_few : (id start : ℕ) (shows : List Show) → IsChain id start shows → length shows ≤ 1344 - start
chain_few id start [] h = omega arith
chain_few id start (s ∷ shows) (i, t, is, more) =
    let rest = chain_few (id + 1) (start + s.quarters) shows more in
    let a = is.starts in
    let b = is.some in
    omega (arith, rest, t, a, b)

-- ---- those of a day

pub day_made : (number service day : ℕ) → AllByRecursion IsMadeShow (shows_on day (shows_of number service))
day_made number service day = all-filter IsMadeShow (λ (s : Show). s.start / 96 == day) (shows_of number service) (chain_made 1 0 (shows_of number service) (omega arith) (chain_of number service))

pub day_few : (number service day : ℕ) → length (shows_on day (shows_of number service)) ≤ 1344
day_few number service day =
    let all = chain_few 1 0 (shows_of number service) (chain_of number service) in
    omega (arith, all, length-filter-le (λ (s : Show). s.start / 96 == day) (shows_of number service))
