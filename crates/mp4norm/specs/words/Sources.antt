-- What is read, as a store: a file, the bytes of standard input, or the files of a list. `S`, `N`,
-- `T` are what the bounds say of the stores over a file, over one that is read by its headers, and
-- over a list.
use Rattle.std.specs.Prelude.{ℕ, List, Bool, true, false}
use Rattle.std.specs.declared.fs.File.{File}
use Rattle.mp4_store.specs.declared.buffered.BufferedStore.{BufferedStore}
use Rattle.mp4_store.specs.declared.file.FileStore.{FileStore}
use Rattle.mp4_store.specs.declared.store.Store.{Ghosts as Store}
use Rattle.mp4norm.specs.declared.shell.near_store.NearStore.{NearStore}
use Rattle.mp4norm.specs.declared.shell.named_files.ListStore.{ListStore}
use Rattle.mp4norm.specs.declared.shell.sources.Source.{Source}
use Rattle.mp4norm.specs.declared.shell.sources.Source.TheVariants as sources

-- all reads of standard input are of the bytes that were read
abbrev pub honest_of : Store (BufferedStore (FileStore File)) → Store (NearStore (FileStore File))
    → Store (NearStore (BufferedStore ListStore)) → Source
    → Bool
honest_of S N T (sources.File store watched) = S.is_honest store
honest_of S N T (sources.Headers store watched) = N.is_honest store
honest_of S N T (sources.Input bytes) = true
honest_of S N T (sources.List list) = T.is_honest list.store

-- these are its file
abbrev pub file_of : Store (BufferedStore (FileStore File)) → Store (NearStore (FileStore File))
    → Store (NearStore (BufferedStore ListStore)) → Source
    → List ℕ
file_of S N T (sources.File store watched) = S.file store
file_of S N T (sources.Headers store watched) = N.file store
file_of S N T (sources.Input bytes) = bytes.items
file_of S N T (sources.List list) = T.file list.store

-- and none of its reads fails
abbrev pub failures_of : Store (BufferedStore (FileStore File)) → Store (NearStore (FileStore File))
    → Store (NearStore (BufferedStore ListStore)) → Source → ℕ
failures_of S N T (sources.File store watched) = S.read_failures store
failures_of S N T (sources.Headers store watched) = N.read_failures store
failures_of S N T (sources.Input bytes) = 0
failures_of S N T (sources.List list) = T.read_failures list.store

-- a file, or one of a list, may be written to meanwhile
abbrev pub may_change : Source → Bool
may_change (sources.Input bytes) = false
may_change _ = true
