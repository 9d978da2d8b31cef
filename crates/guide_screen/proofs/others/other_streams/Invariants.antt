use Rattle.std.proofs.Common.{◌≡◌, Option, take}
use Rattle.section_codec.specs.declared.table.Key.{Key}
use Rattle.section_codec.specs.Contents.{Content}
use Rattle.guide_screen.specs.Holding.{KeepsContents}
use Rattle.guide_screen.specs.Screen.{other_streams}
use Rattle.guide_screen.proofs.others.other_streams.Given as goal

-- the streams of the SDTs so far
abbrev pub invariant-loop-sdt : goal.invariant-loop-sdt
invariant-loop-sdt l =
    (content : Key → Option Content) → KeepsContents l.contents content
    → l.shown.items ≡ other_streams content l.streams l.stream l.original (take l.sdt-index l.sdts)
