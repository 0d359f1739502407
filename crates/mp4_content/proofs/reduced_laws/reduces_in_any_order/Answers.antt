use Rattle.mp4_content.proofs.Reducing.{reduces_in_any_order}
use Rattle.mp4_content.proofs.reduced_laws.reduces_in_any_order.Goals as goal

pub returns : goal.returns
returns c = reduces_in_any_order
