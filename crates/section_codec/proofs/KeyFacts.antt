-- What a key has of the section that it is the key of.
use Rattle.std.proofs.Common.{◌≡◌, ℕ, List, length, Bool, true, false, sym, ap}
use Rattle.std.specs.Prelude.{if◌then◌else◌, nat_le, Option, Some, None, option_and_then}
use Rattle.si_base.specs.Fields.{two_at}
use Rattle.section_codec.specs.Tables.{naming_of}
use Rattle.section_codec.specs.Keys.{key_with, named_by, key_in}
use Rattle.section_codec.specs.declared.table.Naming.{Naming}
use Rattle.section_codec.specs.declared.table.Naming.TheVariants.{Extension, Network, Stream}
use Rattle.section_codec.specs.declared.section.LongHeader.{LongHeader}
use Rattle.section_codec.specs.declared.table.Key.{Key}

-- PID, table_id and table_id_extension of a key are those of the section
pub record IsKeyOf (pid : ℕ) (h : LongHeader) (k : Key) : Type 0 where
  pub on_pid : k.pid ≡ pid
  pub of_table : k.table ≡ h.table
  pub of_ext : k.ext ≡ h.ext

with_is : (pid : ℕ) (h : LongHeader) (stream network : ℕ) (k : Key) → Some (key_with pid h stream network) ≡ Some k → IsKeyOf pid h k
with_is pid h stream network k e =
    let same : key_with pid h stream network ≡ k = cc in
    record { on_pid = ap (λ (x : Key). x.pid) (sym same); of_table = ap (λ (x : Key). x.table) (sym same); of_ext = ap (λ (x : Key). x.ext) (sym same) }

pub IsKeyOf-key_in : (pid : ℕ) (h : LongHeader) (body : List ℕ) (k : Key) → key_in pid h body ≡ Some k → IsKeyOf pid h k
IsKeyOf-key_in pid h body k = go (naming_of pid h.table)
  where
    long : (b : Bool) (stream network : ℕ) → (if b then Some (key_with pid h stream network) else None) ≡ Some k → IsKeyOf pid h k
    long true stream network e = with_is pid h stream network k e
    long false stream network e = cc

    go : (naming : Option Naming) → option_and_then (λ n. named_by n (key_with pid h) body) naming ≡ Some k → IsKeyOf pid h k
    go None e = cc
    go (Some Extension) e = with_is pid h 0 0 k e
    go (Some Network) e = long (nat_le 2 (length body)) 0 (two_at 0 body) e
    go (Some Stream) e = long (nat_le 4 (length body)) (two_at 0 body) (two_at 2 body) e
