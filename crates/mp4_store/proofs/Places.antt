-- What is known of bytes that are read by place.
use Rattle.std.proofs.Common.{◌≡◌, ℕ, ◌-◌, List, Option, Some, None, length, length-append, length-take, arith}
use Rattle.std.proofs.lemmas.List.{length-replicate}
use Rattle.mp4_store.specs.words.Places.{file_known}

pub length-known : (known : Option (List ℕ)) (size : ℕ) → length (file_known known size) ≡ size
length-known None size = length-replicate size 0
length-known (Some list) size = rw (length-append, length-take, length-replicate) (omega arith)
