-- The tables of programs have fields that fit and bodies of at most 1,012 bytes.
use Rattle.std.proofs.Common.{◌≡◌, ℕ, ◌+◌, ◌*◌, ◌≤◌, List, [], ◌∷◌, length, map, Option, Some, None, IfSome, refl, arith, sum_by, length-append}
use Rattle.std.specs.List.{All, AllByRecursion, flat_map}
use Rattle.std.proofs.lemmas.List.{length-map}
use Rattle.std.proofs.lemmas.List.Sums.{sum_by-cons}
use Rattle.std.proofs.lemmas.List.Elements.{All-from_recursion}
use Rattle.si_lists.proofs.Lists.{all_two}
use Rattle.guide_model.specs.declared.stream.Component.{Component}
use Rattle.mux_model.specs.declared.mux.MuxService.{MuxService}
use Rattle.mux_model.specs.declared.mux.Mux.{Mux}
use Rattle.guide_model.specs.Descriptors.{FitsDescriptor, descriptors_size}
use Rattle.guide_model.proofs.SoundFacts.{bodies_fit}
use Rattle.mux_model.specs.Rooms.{component_size, language_size, made_of_component, program_size}
use Rattle.mux_model.specs.Sound.{IsSound, IsSoundService, IsSoundComponent, HasSoundLanguage}
use Rattle.descriptors.proofs.Loops.{length-descriptors_bytes}
use Rattle.descriptors.specs.Descriptors.{descriptors_bytes}
use Rattle.descriptors.proofs.ServiceEntries.{length-languages_body}
use Rattle.table_bodies.specs.declared.pat.PatEntry.{PatEntry}
use Rattle.table_bodies.specs.Pat.{pat_body, HasPid as HasProgramPid}
use Rattle.table_bodies.specs.Entries.{entry_bytes}
use Rattle.table_bodies.specs.Pmt.{IsWritable, FitsComponent, FitsPmt, component_bytes, language_descriptors, pmt_body, program_entry as program_entry_of}
use Rattle.publication.specs.Programs.{program_entry, pat_of, pmt_of}

-- ---- PAT

programs_fit : (ss : List MuxService) → AllByRecursion IsSoundService ss → AllByRecursion HasProgramPid (map program_entry ss)
programs_fit [] sound = tt
programs_fit (s ∷ ss) sound = (omega (arith, (sound.0).pmt_pid.1), programs_fit ss sound.1)

pub pat_fits : (mux : Mux) → IsSound mux → All HasProgramPid (pat_of mux)
pat_fits mux sound = All-from_recursion HasProgramPid (pat_of mux) (omega arith, programs_fit mux.services sound.services)

length-programs : (es : List PatEntry) → length (pat_body es) ≡ 4 * length es
length-programs [] = refl
length-programs (e ∷ es) = omega (arith, length-programs es)

pub pat_short : (mux : Mux) → IsSound mux → length (pat_body (pat_of mux)) ≤ 1012
pat_short mux sound = omega (arith, length-programs (pat_of mux), length-map mux.services program_entry, sound.count.1)

-- ---- PMTs

language_fits : (l : Option (List ℕ)) → HasSoundLanguage l → IfSome l (λ language. length language ≡ 3)
language_fits None sound = tt
language_fits (Some l) sound = sound.0

language_long : (l : Option (List ℕ)) → HasSoundLanguage l → 5 + length (language_descriptors l) ≡ language_size l
language_long None sound = refl
language_long (Some l) sound = omega (arith, length-languages_body (l ∷ []) (sound.0, tt))

component_long : (c : Component) → IsSoundComponent c → length (component_bytes c) ≡ component_size c
component_long c sound =
    omega (arith, length-append (language_descriptors c.language) (descriptors_bytes c.descriptors), length-descriptors_bytes c.descriptors, language_long c.language sound.language)

components_long : (cs : List Component) → AllByRecursion IsSoundComponent cs → length (flat_map component_bytes cs) ≡ sum_by component_size cs
components_long [] sound = refl
components_long (c ∷ cs) sound =
    omega (arith, length-append (component_bytes c) (flat_map component_bytes cs), sum_by-cons component_size c cs, component_long c sound.0, components_long cs sound.1)

pub pmt_long : (s : MuxService) → IsSoundService s → length (pmt_body (pmt_of s)) ≡ program_size s
pmt_long s sound = omega (
  arith,
  length-descriptors_bytes s.program_descriptors,
  components_long s.components sound.components,
  length-append (entry_bytes (program_entry_of (pmt_of s).pcr_pid s.program_descriptors)) (flat_map component_bytes s.components),
)

pub pmt_short : (s : MuxService) → IsSoundService s → length (pmt_body (pmt_of s)) ≤ 1012
pmt_short s sound = omega (arith, pmt_long s sound, sound.program_room)

-- no component takes more than all
each_within : (cs : List Component) (n : ℕ) → sum_by component_size cs ≤ n → AllByRecursion (λ (c : Component). component_size c ≤ n) cs
each_within [] n le = tt
each_within (c ∷ cs) n le =
    (omega (arith, sum_by-cons component_size c cs, le), each_within cs n (omega (arith, sum_by-cons component_size c cs, le)))

writable : (c : Component) → IsSoundComponent c → component_size c ≤ 1012 → IsWritable c
writable c sound few = record {
  pid = omega (arith, sound.pid.1);
  bodies = All-from_recursion FitsDescriptor c.descriptors (bodies_fit (made_of_component c.language) c.descriptors sound.descriptors);
  room = omega (arith, few);
}

components_writable : (s : MuxService) → IsSoundService s → AllByRecursion IsWritable s.components
components_writable s sound =
    all_two IsSoundComponent (λ (c : Component). component_size c ≤ 1012) IsWritable writable s.components sound.components
    (each_within s.components 1012 (omega (arith, sound.program_room)))

pub components_fit : (s : MuxService) → IsSoundService s → All IsWritable s.components
components_fit s sound = All-from_recursion IsWritable s.components (components_writable s sound)

pub program_bodies : (s : MuxService) → IsSoundService s → All FitsDescriptor s.program_descriptors
program_bodies s sound = All-from_recursion FitsDescriptor s.program_descriptors (bodies_fit [] s.program_descriptors sound.program_descriptors)

pub program_few : (s : MuxService) → IsSoundService s → descriptors_size s.program_descriptors ≤ 4095
program_few s sound = omega (arith, sound.program_room)

pub pmt_fits : (s : MuxService) → IsSoundService s → FitsPmt (pmt_of s)
pmt_fits s sound = record {
  pcr_pid = omega (arith, sound.pcr_pid.1);
  room = program_few s sound;
  components = all_two IsSoundComponent IsWritable FitsComponent
      (λ c fits can. record { writable = can; language = language_fits c.language fits.language })
      s.components sound.components (components_writable s sound);
}
