-- Windows on the bytes of a file.
use Rattle.std.specs.Prelude.{◌≡◌, ℕ, ◌+◌, ◌≤◌, List, IsTrue, take}
use Rattle.mp4_store.specs.words.Device.{range}
use Rattle.mp4_store.specs.declared.store.Store.{Ghosts as Store}
use Rattle.mp4_content.specs.declared.file_window.FileWindow.{FileWindow}

-- the window shows bytes of this file
abbrev pub Shows : List ℕ → FileWindow → Type 0
Shows file w = take w.used w.buffer.items ≡ range file w.at w.used

-- so many bytes from this place on are in it
pub record DoesShow (w : FileWindow) (at n : ℕ) : Type 0 where
  pub begins : w.at ≤ at
  pub ends : at + n ≤ w.at + w.used

-- two windows show bytes of the files of two stores
pub record BothShow {X Y : Type 0} (S : Store X) (a : X) (w : FileWindow) (T : Store Y) (b : Y)
    (v : FileWindow) : Type 0 where
  pub left : IsTrue (S.is_honest a) → Shows (S.file a) w
  pub right : IsTrue (T.is_honest b) → Shows (T.file b) v
