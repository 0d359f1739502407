use Rattle.mp4_content.proofs.ComparisonTurned.{swapped_files_swap_values}
use Rattle.mp4_content.proofs.comparing_laws.swapped_files_swap_values.Goals as goal

pub returns : goal.returns
returns c = swapped_files_swap_values
