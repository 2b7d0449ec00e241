-- `into_held` moves the pointer, and what it owns goes with it.
use Rattle.std.proofs.Common.{◌≡◌, List, [], ◌∷◌, ◌++◌, refl, sym, subst}
use mir.Val.{Val}
use base.Logic.{SProp, ent, emp, id⊢}
use base.Fml.{ftrue}
use prog.Wp.{WpFn}
use types.Kit.{‵, raw, ◌⊛◌, ◌$◌, ◌∵◌, !, qed, by, move, keep, split, fsplit, fjoin, suffices, use0, use1}
use types.Run.{stop, fld, of_opd, no_more, and_then, returns, enter}
use types.ByLocal.{alloc_all, pass_all, free_all, look_at, get, get_in, sets}
use types.Part.{agg, sub, whole}
use contract.Monad.{fact, fact_i}
use contract.Running.{tables}
use denote.Exit.{yes}
use denote.RattleType.{RattleType, owns}
use denote.Signature.{types_at, plain}
use denote.Steps.{nothing}
use denote.Triple.Walked.{Stays, stay_dropped, walk_of, Goes-dropped}
use Rattle.std.proofs.raw_atomic.Walks.{proved_at, leaves}
use Rattle.ebpf_handle.proofs.Values.{pointer_good, word, word_good, Held, held_out, held_in}
use Rattle.ebpf_host.specs.contracts.shared.Shared.{the_row as Shared}
use Rattle.ebpf_handle.specs.contracts.shared.SharedHandle.{the_row as SharedHandle}
use Rattle.ebpf_handle.specs.contracts.shared.SharedHandle.into_held.{ended, clauses}
use Rattle.ebpf_handle.specs.contracts.shared.SharedHandle.into_held.Key.{name as #self}
use Rattle.ebpf_handle.proofs.shared.SharedHandle.into_held.Statement.{statement}
use Rattle.ebpf_handle.proofs.shared.SharedHandle.into_held.Code as code

pub into_held_spec : {M : Type 1} → statement M
into_held_spec 𝓤 𝓛 𝓜 𝓡 wired =
    let H = 𝓛.H in let 𝓣 = tables 𝓤 H 𝓜 𝓡 𝓡.env in let c = clauses 𝓛 𝓜.mem 𝓡.returns in let fn = code.function in
    let From : RattleType = SharedHandle in let To : RattleType = Held Shared in
    let hs : Stays ended.signature.params ended.kept = (stay_dropped (plain (λ _. From)) yes, tt) in
    proved_at 𝓛 ended hs c 𝓜 𝓡 (Goes-dropped 𝓛 0 (plain (λ _. From)) yes (λ κs x f. refl), tt) #self fn (code.unfolded 𝓤 H 𝓜 𝓡 wired) (λ z are.
    let κs = z.0.0 in let d = z.0.3.0 in let p = d.at in let Post : Val → SProp 𝓤 = (walk_of 𝓛 ended hs c).post z in
    let Run : List Val → SProp 𝓤 = λ ws. WpFn 𝓤 H 𝓣.C 𝓣.Λ fn ws Post in
    let made : To.Denot = record { at = p; value = d.value } in
    qed 𝓛 ((‵ ftrue ⊛ ‵ (owns (types_at ended.signature.params κs) z.0.3 z.0.4)) ∷ raw ((c κs z.0.3).requires z.1) ∷ []) ∵ split ! $ move ! (1 ∷ []) $
    fsplit ! $
    use1 𝓛 (‵ (To.own_val made z.0.4.0)) (id⊢ 𝓤 _) $
    held_out Shared ! (record { at = p; value = d.value }) z.0.4.0 (λ ws. held_in Shared ! p d.value $
    use1 𝓛 (‵ (To.own_val made (word p ∷ []))) (id⊢ 𝓤 _) $
    -- [what the other struct owns; true; the tokens; what is asked]
    suffices ! (Run (word p ∷ [])) (subst (λ (us : List Val). ent 𝓤 (Run (word p ∷ [])) (Run us)) (sym (λ i. ws i ++ [])) (id⊢ 𝓤 (Run (word p ∷ [])))) $
    enter ! 𝓣.C 𝓣.Λ fn (word p ∷ []) Post $ alloc_all ! (λ l. pass_all ! refl (word_good Shared p, tt) $
    sets ! (of_opd ! (get_in ! (fld ! refl (stop !)) (sub ! 0 refl (whole !)))) refl (pointer_good p) $ sets ! (of_opd ! (get ! refl)) refl (pointer_good p) $
    sets ! (agg ! (and_then ! (get ! refl) (no_more !))) refl (word_good Shared p) $
    use0 𝓛 (raw (fact 𝓤 (d.value ≡ d.value))) (fact_i 𝓤 (d.value ≡ d.value) (emp 𝓤) refl) $ nothing ! $ nothing ! $ fjoin ! $
    returns ! (look_at ! 0 refl) $ free_all ! refl $ keep ! (4 ∷ 0 ∷ 2 ∷ 1 ∷ []) $ by ! (leaves 𝓛 ended hs c z (word p) made (tt, tt) (tt, tt)))))
