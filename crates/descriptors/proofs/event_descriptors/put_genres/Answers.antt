use Rattle.std.proofs.Common.{◌<◌, length, arith, sym}
use Rattle.std.proofs.lemmas.Bool.{eqb-false}
use Rattle.descriptors.proofs.Pieces.{length-content_of}
use Rattle.descriptors.proofs.event_descriptors.put_genres.Goals as goal

pub put_content-requires-clause-room : goal.put_content-requires-clause-room
put_content-requires-clause-room c =
    let some : 0 < length c.args.genres.now = omega (arith, eqb-false _ _ (sym c.if-not-is_empty.ensures)) in
    omega (arith, c.requires.room, length-content_of c.args.genres.now some)
