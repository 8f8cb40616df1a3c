-- The parts of a step.
use Rattle.std.specs.Prelude.{◌≡◌, ℕ, ◌≤◌, List, length, take}
use Rattle.pieces.specs.Step.{moved}

-- r bytes are what a buffer holds of count
pub record Holding (count : ℕ) (buffer : List ℕ) (r : ℕ) : Type 0 where
  pub within : r ≤ length buffer
  pub held : take r buffer ≡ take count buffer

-- the rest is moved to the front of the buffer, and r says how long it is
pub record Kept (rest buffer : List ℕ) (r : ℕ) (exit : List ℕ) : Type 0 where
  pub size : r ≡ length rest
  pub front : exit ≡ moved rest buffer
