use Rattle.std.proofs.Common.{◌≡◌, ◌∙◌, refl, ap, List}
use Rattle.guide_model.specs.declared.descriptor.RawDesc.{RawDesc}
use Rattle.descriptors.specs.Content.{content_in}
use Rattle.descriptors.specs.ParentalRating.{is_one_rating, parental_rating_in}
use Rattle.descriptors.specs.ShortEvent.{short_event_in}
use Rattle.descriptors.specs.First.{without_first, always}
use Rattle.table_bodies.specs.ShownEvent as shows
use Rattle.table_bodies.proofs.FirstOnes.{first_elsewhere, pieces_elsewhere}
use Rattle.table_bodies.proofs.reading.event_of.Goals as goal

pub returns : goal.returns
returns c =
    let ds = c.args.descs in
    let no_short : List RawDesc = without_first 0x4D short_event_in always ds in
    let no_rating : List RawDesc = without_first 0x55 parental_rating_in is_one_rating no_short in
    let short : c.in_ok-short.short ≡ shows.short_of ds = c.in_ok-short.ensures.event ∙ ap shows.short_of c.into_vec-further.ensures in
    let first : c.take_short.new.descs.items ≡ no_short = c.in_ok-short.ensures.rest ∙ ap (without_first 0x4D short_event_in always) c.into_vec-further.ensures in
    let rating : c.in_ok-rating.rating ≡ shows.rating_of ds =
    c.in_ok-rating.ensures.rating ∙ ap shows.rating_of first
    ∙ ap shows.first_rating (first_elsewhere 0x55 0x4D parental_rating_in short_event_in always refl ds) in
    let second : c.take_rating.new.descs.items ≡ no_rating = c.in_ok-rating.ensures.rest ∙ ap (without_first 0x55 parental_rating_in is_one_rating) first in
    let genres : c.in_ok-genres.genres ≡ shows.genres_of ds =
    c.in_ok-genres.ensures.genres ∙ ap shows.genres_of second
    ∙ ap shows.genres_or_none (first_elsewhere 0x54 0x55 content_in parental_rating_in is_one_rating refl no_short
    ∙ first_elsewhere 0x54 0x4D content_in short_event_in always refl ds) in
    let third : c.take_genres.new.descs.items ≡ shows.without_firsts ds = c.in_ok-genres.ensures.rest ∙ ap (without_first 0x54 content_in always) second in
    let language = (shows.short_of ds).language in
    let pieces =
    pieces_elsewhere language 0x54 content_in always refl no_rating ∙ pieces_elsewhere language 0x55 parental_rating_in is_one_rating refl no_short
    ∙ pieces_elsewhere language 0x4D short_event_in always refl ds in
    let extended : c.in_ok-extended.extended ≡ shows.extended_of ds =
    c.in_ok-extended.ensures ∙ (λ i. shows.joined (shows.pieces_in (short i).language ((c.deref.ensures.value ∙ third) i))) ∙ ap shows.joined pieces in
    let further : c.of.result ≡ shows.further_of_event ds =
    c.of.ensures ∙ c.without_pieces.ensures ∙ (λ i. shows.without_pieces (short i).language (extended i) (third i)) in
    λ i. record {
      id = c.args.id;
      start = c.args.start;
      seconds = c.args.seconds;
      language = (short i).language;
      name = (short i).name;
      short = (short i).short;
      extended = extended i;
      rating = rating i;
      genres = genres i;
      descriptors = further i;
    }
