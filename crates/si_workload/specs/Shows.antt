-- The shows of a service, which follow each other without a gap for 14 days.
use Rattle.std.specs.Prelude.{ℕ, zero, suc, ◌+◌, ◌-◌, ◌*◌, ◌/◌, ◌%◌, ◌==◌, nat_lt, if◌then◌else◌, List, [], ◌∷◌}
use Rattle.std.specs.List.{filter}
use Rattle.si_workload.specs.declared.shows.Show.{Show}
use Rattle.si_workload.specs.declared.shows.NextShow.{NextShow}

-- ---- draws of a linear congruential generator of 64 bits

abbrev pub state_behind : ℕ → ℕ
state_behind x = (x * 6364136223846793005 + 1442695040888963407) % 18446744073709551616

-- the number that a state gives
abbrev pub drawn : ℕ → ℕ
drawn x = x / 8589934592

-- the state of a service before its first draw
abbrev pub first_state : ℕ → ℕ → ℕ
first_state number service = number * 8 + (service - 101)

-- ---- shows, whose times are counted in quarters of an hour from the first midnight on

-- the show with this id and start: two draws give its length, 1 to 8, and the number of its name, below 1000
abbrev pub show_at : ℕ → ℕ → ℕ → Show
show_at id start state =
    record { id = id; start = start; quarters = 1 + drawn (state_behind state) % 8; title = drawn (state_behind (state_behind state)) % 1000 }

-- the shows from one on that start within 14 days, that are 1344 quarters, at most so many
unfoldable pub shows_from : ℕ → ℕ → ℕ → ℕ → List Show
shows_from zero id start state = []
shows_from (suc most) id start state =
    if nat_lt start 1344
    then show_at id start state ∷ shows_from most (id + 1) (start + (show_at id start state).quarters) (state_behind (state_behind state))
    else []

-- the shows of a service
abbrev pub shows_of : ℕ → ℕ → List Show
shows_of number service = shows_from 1344 1 0 (first_state number service)

-- those of a day, counted from 0 on: they start on it
abbrev pub shows_on : ℕ → List Show → List Show
shows_on day shows = filter (λ (s : Show). s.start / 96 == day) shows

-- ---- shows that are still to come

abbrev pub shows_ahead : NextShow → List Show
shows_ahead next = shows_from (1345 - next.id) next.id next.start next.state
