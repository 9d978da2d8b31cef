-- The keys of the tables that come once, as code keeps them.
use Rattle.std.specs.Prelude.{◌≡◌, Bool, is_some}
use Rattle.guide_screen.specs.View.{sdt_of}
use Rattle.guide_parts.specs.declared.heard.Heads.{Heads}
use Rattle.guide_parts.specs.Parts.{Parts, pat_heard, sdt_heard, home_of}

-- These are the keys of the PAT and the SDT that are shown of parts and the one that names the own stream, and the PAT's SDT is whole or not.
pub record AreHeads (P : Parts) (heads : Heads) (whole : Bool) : Type 0 where
  pub pat : heads.pat ≡ pat_heard P
  pub sdt : heads.sdt ≡ sdt_heard P
  pub home : heads.home ≡ home_of P
  pub whole_is : whole ≡ is_some (sdt_of P.view)
