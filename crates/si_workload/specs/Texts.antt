-- The texts of a load that is made of a number: the description, the edits of a feed, and the lines of the control.
use Rattle.std.specs.Prelude.{ℕ, ◌+◌, ◌*◌, ◌%◌, List, ◌++◌, ◌∷◌, length, take, map, flat_map, codes, decimal}
use Rattle.std.specs.List.{range_with_len}
use Rattle.si_time.specs.Moments.{moment_text, duration_text}
use Rattle.si_workload.specs.declared.shows.Show.{Show}
use Rattle.si_workload.specs.Shows.{shows_of, shows_on}

-- ---- the description of the multiplex

-- the line of a service: each second one is of feed 2
abbrev pub service_line : ℕ → List ℕ
service_line i =
    codes "service," ++ decimal (101 + i) ++ codes "," ++ decimal (1 + i % 2) ++ codes ",1," ++ decimal (256 + i) ++ codes "," ++ decimal (512 + i)
    ++ codes ",Maker,Channel " ++ decimal i ++ codes "\n"

abbrev pub mux_text : List ℕ
mux_text = codes "network,40,Soak\nstream,1,1\n" ++ flat_map service_line (range_with_len 0 8) ++ codes "start,1993-10-13T00:00:00Z\nend\n"

-- ---- the edits of a feed

-- so many quarters of an hour behind the first midnight, 1993-10-13T00:00:00Z, in seconds
abbrev pub moment_at : ℕ → ℕ
moment_at quarters = 4257187200 + 900 * quarters

abbrev pub item_line : Show → List ℕ
item_line s =
    codes "item," ++ decimal s.id ++ codes "," ++ moment_text (moment_at s.start) ++ codes "," ++ duration_text (900 * s.quarters)
    ++ codes ",eng,Show " ++ decimal s.title ++ codes ",,,,,\n"

-- the line of a day of a service, which has so many items
abbrev pub day_line : ℕ → ℕ → ℕ → List ℕ
day_line service day count =
    codes "day," ++ decimal service ++ codes "," ++ take 10 (moment_text (moment_at (96 * day))) ++ codes "," ++ decimal count ++ codes "\n"

-- the edit of a day, of all shows of a service
abbrev pub day_text : ℕ → List Show → ℕ → List ℕ
day_text service shows day = day_line service day (length (shows_on day shows)) ++ flat_map item_line (shows_on day shows)

abbrev pub name_line : ℕ → List ℕ
name_line service = codes "name," ++ decimal service ++ codes ",Maker,Station " ++ decimal service ++ codes "\n"

-- the edits of a service: its name, and each of the 14 days
abbrev pub service_text : ℕ → ℕ → List ℕ
service_text number service = name_line service ++ flat_map (day_text service (shows_of number service)) (range_with_len 0 14)

-- the edits of feed 1 or 2, which has four services
abbrev pub feed_text : ℕ → ℕ → List ℕ
feed_text number feed = flat_map (service_text number) (map (λ (i : ℕ). 100 + feed + 2 * i) (range_with_len 0 4))

-- ---- the lines of the control

abbrev pub tick_lines : ℕ → List ℕ
tick_lines quarters = codes "tick," ++ moment_text (moment_at quarters) ++ codes "\npublish\n"

-- at 6, 12 and 18 hours
abbrev pub control_text : List ℕ
control_text = tick_lines 24 ++ tick_lines 48 ++ tick_lines 72
