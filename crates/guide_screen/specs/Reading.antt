-- What the bodies of the sections of a table say together (ISO/IEC 13818-1, 2.4.4; EN 300 468, 5.2).
use Rattle.std.specs.Prelude.{ℕ, List, [], Option, option_map, option_and_then, unwrap_or}
use Rattle.std.specs.List.{flat_map}
use Rattle.guide_model.specs.declared.screen.ScreenEvent.{ScreenEvent}
use Rattle.section_codec.specs.declared.table.NumberedBody.{NumberedBody}
use Rattle.section_codec.specs.Contents.{Content, part_in}
use Rattle.table_bodies.specs.declared.pat.PatEntry.{PatEntry}
use Rattle.table_bodies.specs.Pat.{pat_in}
use Rattle.table_bodies.specs.declared.nit.NitStream.{NitStream}
use Rattle.table_bodies.specs.declared.sdt.SdtService.{SdtService}
use Rattle.table_bodies.specs.Nit.{nit_in}
use Rattle.table_bodies.specs.Sdt.{sdt_in}
use Rattle.table_bodies.specs.Eit.{eit_in}

-- what the bodies of all sections list, in order
abbrev pub listed : {X : Type 0} → (List ℕ → Option (List X)) → Content → List X
listed says c = flat_map (λ (s : NumberedBody). unwrap_or (says s.body) []) c

abbrev pub programs_in : Content → List PatEntry
programs_in c = listed pat_in c

abbrev pub streams_in : Content → List NitStream
streams_in c = listed (λ body. option_map (λ nit. nit.streams) (nit_in body)) c

abbrev pub services_in : Content → List SdtService
services_in c = listed (λ body. option_map (λ sdt. sdt.services) (sdt_in body)) c

abbrev pub events_in : Content → List ScreenEvent
events_in c = listed (λ body. option_map (λ eit. eit.events) (eit_in body)) c

-- what the body of the section with this number says
abbrev pub value_in : {X : Type 0} → (List ℕ → Option X) → ℕ → Content → Option X
value_in says number c = option_and_then says (part_in number c)
