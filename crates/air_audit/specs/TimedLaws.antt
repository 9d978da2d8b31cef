-- Laws of the air of an airing list at a bit rate.
use Rattle.std.specs.Prelude.{ℕ, Bool, List, [], ◌∷◌, ◌++◌, ◌↔◌}
use Rattle.version_book.specs.Airings.{AiredTables}
use Rattle.air_audit.specs.TimedAirs.{AreTheAir, BeginTheAir}
use Rattle.air_audit.specs.TimedChecking.{TimedChecking, IsAtEnd, StandsFor}

-- The first packets of an air are those of the air of a longer list.
abbrev pub LongerBegins : Type 0
LongerBegins =
    (rate : ℕ) (nulls : Bool) (airings others : List AiredTables) (packets : List (List ℕ))
    → BeginTheAir rate nulls airings packets → BeginTheAir rate nulls (airings ++ others) packets

-- While its cycle has not ended, an auditor need not know the airings to come.
abbrev pub LongerListsAgree : Type 0
LongerListsAgree =
    (airings others : List AiredTables) (accepted : List (List ℕ)) (c : TimedChecking)
    (packet : List ℕ) → StandsFor airings accepted c → (IsAtEnd c → Prim.⊥)
    → BeginTheAir c.playing.rate c.nulls (airings ++ others) (accepted ++ packet ∷ [])
    ↔ BeginTheAir c.playing.rate c.nulls airings (accepted ++ packet ∷ [])

-- After a whole air no packet is the next one.
abbrev pub WholeAirsEnd : Type 0
WholeAirsEnd =
    (rate : ℕ) (nulls : Bool) (airings : List AiredTables) (packets : List (List ℕ))
    (packet : List ℕ) → AreTheAir rate nulls airings packets
    → BeginTheAir rate nulls airings (packets ++ packet ∷ []) → Prim.⊥

-- The first packets of an air that are a whole one of a longer list are a whole one.
abbrev pub LongerAirs : Type 0
LongerAirs =
    (rate : ℕ) (nulls : Bool) (airings others : List AiredTables) (packets : List (List ℕ))
    → AreTheAir rate nulls (airings ++ others) packets → BeginTheAir rate nulls airings packets
    → AreTheAir rate nulls airings packets
