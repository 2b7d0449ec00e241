-- What a handle holds after a load, and how loads are seen.
use Rattle.std.proofs.Common.{◌≡◌, ◌⊎◌, ℕ, List, Option, Some, None, inl, inr, subst, sym}
use Rattle.std.specs.Arc.{arc_value}
use Rattle.std.specs.Option.{MatchOption}
use Rattle.std.specs.declared.alloc.Global.{Global}
use Rattle.std.specs.declared.sync.Arc.{Arc}
use Rattle.ebpf_host.specs.declared.program.Program.{Program}
use Rattle.ebpf_host_c.specs.declared.reported.Refused.{Refused}
use Rattle.ebpf_host_c.specs.declared.status.TheConstants.{DECLARATION, DONE, NO_MEMORY, REFUSED}
use Rattle.ebpf_host_c.specs.Loads.{IsLoad}

holds : (P Q : Program → Type 0) → ((p : Program) → P p → Q p) → (held : Option (Arc Program Global))
    → MatchOption held ⊥ (λ p. P (arc_value p)) → MatchOption held ⊥ (λ p. Q (arc_value p))
holds P Q f None h = h
holds P Q f (Some p) h = f (arc_value p) h

-- what is said of a program is so of the handle that keeps it
pub kept_as : (P : Program → Type 0) (loaded : Program) (held : Option (Arc Program Global))
    → MatchOption held ⊥ (λ p. arc_value p ≡ loaded) → P loaded → MatchOption held ⊥ (λ p. P (arc_value p))
kept_as P loaded held h is = holds (λ p. p ≡ loaded) P (λ p same. subst P (sym same) is) held h

pub IsLoad-weaker : (L M : Program → Type 0) (R S : (room text : List ℕ) → Refused → Type 0) (O P W V : Type 0)
    → ((p : Program) → L p → M p) → ((room text : List ℕ) (r : Refused) → R room text r → S room text r) → (O → P) → (W → V)
    → (old new : Option (Arc Program Global)) (room text : List ℕ) (before after : Refused) (status : ℕ)
    → IsLoad L R O W old new room text before after status → IsLoad M S P V old new room text before after status
IsLoad-weaker L M R S O P W V l r o w old new room text before after status h = record {
  loaded = λ e. holds L M l new (h.loaded e);
  refused = λ e. r room text after (h.refused e);
  untold = h.untold;
  declaration = λ e. o (h.declaration e);
  memory = λ e. w (h.memory e);
  statuses = h.statuses;
  kept = h.kept;
}

-- the status of a refusal is not that of a load
pub not_done : (status : ℕ) → (status ≡ REFUSED) ⊎ (status ≡ DECLARATION) ⊎ (status ≡ NO_MEMORY) → status ≡ DONE → ⊥
not_done status (inl e) done = let never : ⊥ = cc in never
not_done status (inr (inl e)) done = let never : ⊥ = cc in never
not_done status (inr (inr e)) done = let never : ⊥ = cc in never
