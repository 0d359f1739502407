use Rattle.mp4_answers.proofs.FieldParts.{few_seen}
use Rattle.mp4_answers.proofs.layouts.layout_of.Goals as goal

pub returns-clause-few : goal.returns-clause-few
returns-clause-few c = few_seen c.args.kind.0 c.find_or.result
    (rw (
      c.find_or-found-6.ensures,
      c.find_or-found-5.ensures,
      c.find_or-found-4.ensures,
      c.find_or-found-3.ensures,
      c.find_or-found-2.ensures,
      c.find_or-found.ensures,
      c.of_file.ensures,
      c.of_movie.ensures,
      c.of_track.ensures,
      c.of_media.ensures,
      c.of_samples.ensures,
      c.of_places.ensures,
      c.of_fragment.ensures,
    ) at c.find_or.ensures)
