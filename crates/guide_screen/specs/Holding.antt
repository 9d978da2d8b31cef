-- What code holds of a view: a collector, and what was completed last.
use Rattle.std.specs.Prelude.{◌≡◌, List, Option, Some, None, option_map}
use Rattle.si_time.specs.declared.moment.Moment.{Moment}
use Rattle.section_codec.specs.declared.table.Key.{Key}
use Rattle.section_codec.specs.Contents.{Content}
use Rattle.sub_collect.specs.Runs.{Counted}
use Rattle.sub_collect.specs.Completions.{latest_of}
use Rattle.sub_collect.specs.Marks.{Taken, content_over}
use Rattle.sub_collect.specs.Collectors.{KeysHeard, CollectorStandsOver}
use Rattle.sub_collect.specs.declared.completed.Completed.{Completed}
use Rattle.guide_screen.specs.declared.contents.Latest.{Latest}
use Rattle.guide_screen.specs.declared.screen.Named.{Named}
use Rattle.guide_screen.specs.View.{View, sdt_of}

-- the content of a key's latest completion, by the sections that counted
abbrev pub content_in : List Counted → Key → Option Content
content_in past k = option_map (λ (d : Completed). d.sections) (latest_of k past)

-- A collector keeps these contents.
pub record KeepsContents (collector : KeysHeard) (content : Key → Option Content) : Type 0 where
  pub past : List Taken
  pub stands : CollectorStandsOver past collector
  pub each : (k : Key) → content k ≡ content_over past k

-- A collector and what was completed last are what a view has.
pub record Holds (collector : KeysHeard) (latest : Latest) (V : View) : Type 0 where
  pub keeps : KeepsContents collector V.content
  pub pat : V.pat ≡ latest.pat
  pub nit : V.nit ≡ latest.nit
  pub sdt : sdt_of V ≡ latest.sdt
  pub clock : V.clock ≡ option_map (λ (at : Moment). at.0) latest.clock

-- the keys and the moment that a screen shows, where there are all
abbrev pub named_by : Option Key → Option Key → Option Key → Option Moment → Option Named
named_by (Some pat) (Some nit) (Some sdt) (Some clock) = Some (record { pat = pat; nit = nit; sdt = sdt; clock = clock })
named_by pat nit sdt clock = None

abbrev pub named : Latest → Option Named
named latest = named_by latest.pat latest.nit latest.sdt latest.clock
