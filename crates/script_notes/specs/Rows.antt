-- Worked reports.
use Rattle.std.specs.Prelude.{◌≡◌, ◌++◌, [], ◌∷◌, refl, codes}
use Rattle.std.specs.Fmt.{digits}
use Rattle.script_notes.specs.declared.why.FieldName.TheVariants as field
use Rattle.script_notes.specs.declared.why.Why.TheVariants.{BadField, NoCommand, NoItem}
use Rattle.script_notes.specs.Pieces.{Noted, pieces_text}
use Rattle.script_notes.specs.Whole.{whole_entries}

-- comments
row_comments :
    pieces_text (Noted 5 (NoCommand 1) ∷ Noted 7 (BadField field.Duration 4) ∷ Noted 8 NoItem ∷ [])
    ≡ codes "# line 5: field 1 is no command\n# line 7: duration (field 4) is not dd:dd:dd\n"
    ++ codes "# line 8: no item\n"
unfolding digits
row_comments = refl

-- cut in an entry, in its outcome, and in its LF; a comment after the last entry goes too
row_cut : whole_entries (codes "0,publish\n=,published,1\n# line 8: no item\n0,swa")
    ≡ codes "0,publish\n=,published,1\n"
row_cut = refl

row_outcome : whole_entries (codes "0,publish\n=,published,1\n0,publish\n=,publi")
    ≡ codes "0,publish\n=,published,1\n"
row_outcome = refl

row_end : whole_entries (codes "0,publish\n=,published,1") ≡ []
row_end = refl

-- not cut, a comment between entries stays
row_whole :
    whole_entries (codes "0,publish\n=,published,1\n# line 8: no item\n0,publish\n=,published,2\n")
    ≡ codes "0,publish\n=,published,1\n# line 8: no item\n0,publish\n=,published,2\n"
row_whole = refl
