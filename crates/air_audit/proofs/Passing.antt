-- Null packets are passed over.
use Rattle.std.proofs.Common.{◌≡◌, ℕ, List, [], ◌∷◌, ◌++◌, Bool, true, false, not, refl, sym, ap, ap₂, ◌∙◌, subst, map}
use Rattle.std.specs.Prelude.{◌==◌, ◌&&◌, cond}
use Rattle.std.specs.List.{AllByRecursion, filter}
use Rattle.std.proofs.lemmas.List.Elements.{filter-append}
use Rattle.version_book.specs.Airings.{AiredTables}
use Rattle.ts_packets.specs.Bytes.{Packet, HasFields, bytes_of_packet, pid_in}
use Rattle.ts_packets.proofs.Headers.{pid_in-bytes}
use Rattle.air_model.specs.Air.{Aired, air}
use Rattle.air_model.specs.Nulls.{is_other, without_nulls, plain}
use Rattle.air_model.proofs.Nulls.{plain_is_air, air_left, no_null_left}
use Rattle.air_model.proofs.Repeating.{airs_repeat}
use Rattle.air_audit.specs.Audits.{AreAnAir}
use Rattle.air_audit.specs.Checking.{has_shape}
use Rattle.air_audit.specs.Passing.{is_null, past_nulls, AirsArePassedOver, FrontsArePassedOver}
use Rattle.air_audit.proofs.Checks.{shape_of_written}

abbrev passes : List ℕ → Bool
passes bytes = not (is_null bytes)

-- ---- one packet more

pub null_more : (packets : List (List ℕ)) (bytes : List ℕ) → is_null bytes ≡ true → past_nulls packets ≡ past_nulls (packets ++ bytes ∷ [])
null_more [] bytes e = sym (ap (λ (b : Bool). let l : List (List ℕ) = cond (not b) (bytes ∷ []) [] in l) e)
null_more (b ∷ packets) bytes e = ap (λ (l : List (List ℕ)). cond (passes b) (b ∷ l) l) (null_more packets bytes e)

pub other_more : (packets : List (List ℕ)) (bytes : List ℕ) → is_null bytes ≡ false → past_nulls packets ++ bytes ∷ [] ≡ past_nulls (packets ++ bytes ∷ [])
other_more packets bytes e =
    ap (λ (b : Bool). let l : List (List ℕ) = cond (not b) (bytes ∷ []) [] in past_nulls packets ++ l) (sym e) ∙ sym (filter-append passes packets (bytes ∷ []))

-- ---- a written air

null_written : (p : Packet) → HasFields p → is_null (bytes_of_packet p) ≡ (p.pid == 8191)
null_written p h = ap₂ (λ (b : Bool) (n : ℕ). b && n == 8191) (shape_of_written p h) (pid_in-bytes p h.pid)

past_written : (ps : List Packet) → AllByRecursion HasFields ps → past_nulls (map bytes_of_packet ps) ≡ map bytes_of_packet (without_nulls ps)
past_written [] h = refl
past_written (p ∷ ps) h =
    ap₂ (λ (b : Bool) (l : List (List ℕ)). cond (not b) (bytes_of_packet p ∷ l) l) (null_written p h.0) (past_written ps h.1) ∙ go (p.pid == 8191)
  where
    go : (b : Bool) → cond (not b) (bytes_of_packet p ∷ map bytes_of_packet (without_nulls ps)) (map bytes_of_packet (without_nulls ps))
        ≡ map bytes_of_packet (cond (not b) (p ∷ without_nulls ps) (without_nulls ps))
    go true = refl
    go false = refl

pub airs_passed_over : AirsArePassedOver
airs_passed_over airings xs is = record {
  xs = plain xs;
  is_air = plain_is_air airings xs is;
  no_null = no_null_left airings xs (airs_repeat airings xs is);
  packets_are = ap (map bytes_of_packet) (air_left xs) ∙ sym (past_written (air xs) is.fields);
}

pub fronts_passed_over : FrontsArePassedOver
fronts_passed_over airings xs front more is cut = record {
  more = past_nulls more;
  whole = subst (AreAnAir airings) (ap past_nulls cut ∙ filter-append passes front more) (airs_passed_over airings xs is);
}
