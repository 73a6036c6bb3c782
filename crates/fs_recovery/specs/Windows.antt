-- A window on Main. Source: own.
use Rattle.std.specs.Prelude.{◌≡◌, ℕ, List, length}
use Rattle.fs_recovery.specs.declared.held.Window.{Window}
use Rattle.fs_recovery.specs.Reading.{Holds}

-- a window on a text: it is as long as the text, and what it holds, and what was read ahead, are of it
pub record Shows {n : ℕ} (window : Window n) (text : List ℕ) : Type 0 where
  pub long : window.length ≡ length text
  pub near : Holds window.near.at window.near.count window.near.held text
  pub far : Holds window.ahead.at window.ahead.count window.ahead.held text
