-- The books of a cache and of a shelf, before they are opened.
use Rattle.std.specs.Prelude.{◌≡◌, ℕ}
use Rattle.std.specs.declared.sync.ledger.Blank.{Blank}
use Rattle.worker_pool.specs.declared.supply.KindBlanks.{KindBlanks}

-- the blank is the one that a ledger of this name means, of 65 parts: a part for each of 64 hands, and one that stays
abbrev pub IsFor : Blank → ℕ → Type 0
IsFor blank name = (blank.name ≡ name) × (blank.parts ≡ 65)

-- the blanks of a kind are those of ledgers of these names
pub record AreFor (outs ins puts gets : ℕ) (b : KindBlanks) : Type 0 where
  pub outs_for : IsFor b.outs outs
  pub ins_for : IsFor b.ins ins
  pub puts_for : IsFor b.puts puts
  pub gets_for : IsFor b.gets gets

-- all four of a kind have that many parts
pub record AreWhole (b : KindBlanks) : Type 0 where
  pub outs : b.outs.parts ≡ 65
  pub ins : b.ins.parts ≡ 65
  pub puts : b.puts.parts ≡ 65
  pub gets : b.gets.parts ≡ 65
