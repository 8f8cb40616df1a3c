-- Fields that are read from bytes into what is lent.
use Rattle.std.specs.Prelude.{◌≡◌, List, ℕ, ◌+◌, ◌*◌, ◌≤◌, ℤ, length, take}
use Rattle.rows.specs.Limits.{most_terms}
use Rattle.rows.specs.Summable.{terms}
use Rattle.ledger.specs.Limits.{longest_line}
use Rattle.ledger.specs.Bytes.{byte_at, numbers_behind, terms_behind}

-- b has at this place a count in this range, and behind it as many bytes as that needs
pub record Listed (place width least most : ℕ) (b : List ℕ) : Type 0 where
  pub some : least ≤ byte_at b place
  pub few : byte_at b place ≤ most
  pub long : length b ≡ place + 1 + width * byte_at b place

-- the cells hold so many numbers, and then anything
pub record NumbersRead (place : ℕ) (b : List ℕ) (count : ℕ) (cells : List ℕ) : Type 0 where
  pub few : count ≤ longest_line
  pub read : take count cells ≡ numbers_behind place b

-- the two lists hold so many terms, and then anything
pub record TermsRead (place : ℕ) (b : List ℕ) (k : ℕ) (forms : List ℕ) (multipliers : List ℤ) : Type 0 where
  pub few : k ≤ most_terms
  pub count : k ≡ byte_at b place
  pub read : terms (take k forms) (take k multipliers) ≡ terms_behind place b
