-- A worker more is taken apart.
use Rattle.std.proofs.Common.{◌≡◌, ◌≢◌, ◌⊎◌, inl, inr, ◌<◌, ◌≤◌, ◌+◌, ◌*◌, ◌^◌, ℕ, Some, All, Any, List, [], ◌∷◌, ◌++◌, length, reverse, refl, sym, ap}
use Rattle.std.proofs.Common.{subst, ◌∙◌, arith, length-append}
use Rattle.std.specs.Prelude.{sum_by}
use Rattle.std.proofs.lemmas.List.{reverse-append, reverse-reverse, append_assoc, append-nil}
use Rattle.std.proofs.lemmas.List.Elements.{All-push, All-nil}
use Rattle.std.proofs.lemmas.List.Quantifiers.{Any-push}
use Rattle.std.proofs.lemmas.List.Sums.{sum_by_push}
use Rattle.owners_table.proofs.Joining.{all_front, all_last}
use Rattle.worker_pool.specs.EachKind.{AreOneMore}
use Rattle.worker_pool.specs.declared.worker.Ending.{Ending}
use Rattle.worker_pool.specs.declared.worker.Ending.TheVariants.{Through, Unstarted, OutOfMemory}
use Rattle.worker_pool.specs.declared.worker.Worker.{Worker}
use Rattle.worker_pool.specs.declared.hands.Tools.{Tools}
use Rattle.worker_pool.specs.declared.crew.Parts.{Parts}
use Rattle.worker_pool.specs.declared.crew.Done.{Done}
use Rattle.worker_pool.specs.Crews.{AreDismissed, ArePartsOf, HaveNone, IsBack, tools_or, tools_in, hands_in, seat_in, clashes_in, strays_in}
use Rattle.worker_pool.proofs.EachKind.{all_made_more, none_made}
use Rattle.worker_pool.proofs.Pairs.{pushed}
use Rattle.worker_pool.proofs.Turned.{sum_turned, length_turned, all_turned, any_before, any_turned}

module _ {L : Type 0} where
  -- some of the workers were taken apart, the last one first, and these are left
  pub record AreApart (all left : List (Worker L)) (p : Parts L) (told : Done) : Type 0 where
    pub done : List (Worker L)
    pub split : all ≡ left ++ reverse done
    pub parts : ArePartsOf done p
    pub clashes : told.clashes ≡ sum_by clashes_in done
    pub strays : told.strays ≡ sum_by strays_in done
    pub few : (told.clashes ≤ length done * 2 ^ 56) × (told.strays ≤ length done * 2 ^ 56)
    pub kept : told.ending ≢ OutOfMemory → All (λ w. w.ending ≢ OutOfMemory) done
    pub through : told.ending ≡ Through → Any (λ w. w.ending ≡ Through) done
    pub back : All IsBack left

  -- n were taken apart
  pub done_are : (all left : List (Worker L)) (p : Parts L) (told : Done) (h : AreApart all left p told) → length h.done + length left ≡ length all
  done_are all left p told h =
      let sum = ap length h.split ∙ length-append left (reverse h.done) in
      omega (arith, sum, length_turned h.done)

  pub last_back : (all left rest : List (Worker L)) (w : Worker L) (p : Parts L) (told : Done) → left ≡ rest ++ w ∷ [] → AreApart all left p told → IsBack w
  last_back all left rest w p told is h = all_last IsBack rest w (subst (All IsBack) is h.back)

  -- one worker more, with these tools
  module _ (all left rest : List (Worker L)) (w : Worker L) (tools : Tools L) (p : Parts L) (told : Done)
      (is : left ≡ rest ++ w ∷ []) (tools_are : w.tools ≡ Some tools) (h : AreApart all left p told) where
    pub few_more : (tools.clashes ≤ 2 ^ 56) × (tools.strays ≤ 2 ^ 56)
    few_more =
        let back = last_back all left rest w p told is h in
        let same : Some back.tools ≡ Some tools = sym back.tools_are ∙ tools_are in
        let clashes_same : back.tools.clashes ≡ tools.clashes = ap (λ o. (tools_or o).clashes) same in
        let strays_same : back.tools.strays ≡ tools.strays = ap (λ o. (tools_or o).strays) same in
        (omega (arith, back.few.0, clashes_same), omega (arith, back.few.1, strays_same))

    -- of 64 workers at most, the sums don't wrap
    pub sums_fit : length all ≤ 64 → (told.clashes + tools.clashes < 2 ^ 64) × (told.strays + tools.strays < 2 ^ 64)
    sums_fit few =
        let done = done_are all left p told h in
        let most : length h.done * 2 ^ 56 ≤ 64 * 2 ^ 56 = omega (arith, done, few) in
        (omega (arith, few_more.0, most, h.few.0), omega (arith, few_more.1, most, h.few.1))

    split_more : all ≡ rest ++ reverse (h.done ++ w ∷ [])
    split_more =
        let turned : reverse (h.done ++ w ∷ []) ≡ w ∷ reverse h.done = reverse-append h.done (w ∷ []) in
        h.split ∙ ap (λ l. l ++ reverse h.done) is ∙ append_assoc rest (w ∷ []) (reverse h.done) ∙ ap (λ l. rest ++ l) (sym turned)

    -- a count of the workers that were taken apart
    more : (f : Tools L → ℕ) (n : ℕ) → n ≡ sum_by (λ v. f (tools_in v)) h.done → n + f tools ≡ sum_by (λ v. f (tools_in v)) (h.done ++ w ∷ [])
    more f n is_sum =
        let sum = sum_by_push (λ v. f (tools_in v)) h.done w in
        let here : f (tools_in w) ≡ f tools = ap (λ o. f (tools_or o)) tools_are in
        omega (arith, sum, here, is_sum)

    few_all : (n m : ℕ) → n ≤ length h.done * 2 ^ 56 → m ≤ 2 ^ 56 → n + m ≤ length (h.done ++ w ∷ []) * 2 ^ 56
    few_all n m few one =
        let len = length-append h.done (w ∷ []) in
        let more : length (h.done ++ w ∷ []) * 2 ^ 56 ≡ length h.done * 2 ^ 56 + 2 ^ 56 = ap (λ n. n * 2 ^ 56) len ∙ omega arith in
        omega (arith, more, few, one)

    through_more : (told.ending ≡ Through) ⊎ (w.ending ≡ Through) → Any (λ v. v.ending ≡ Through) (h.done ++ w ∷ [])
    through_more (inl before) = any_before (λ v. v.ending ≡ Through) h.done w (h.through before)
    through_more (inr now) = Any-push (λ v. v.ending ≡ Through) h.done w now

    pub one_apart : (p' : Parts L) (e : Ending)
        → (e ≢ OutOfMemory → (told.ending ≢ OutOfMemory) × (w.ending ≢ OutOfMemory))
        → (e ≡ Through → (told.ending ≡ Through) ⊎ (w.ending ≡ Through))
        → AreOneMore p.hands p'.hands tools.hands
        → p'.seats.items ≡ p.seats.items ++ tools.seat ∷ []
        → p'.drawers.items ≡ p.drawers.items ++ w.ticket ∷ []
        → p'.answered.items ≡ p.answered.items ++ w.answered ∷ []
        → AreApart all rest p' (record { clashes = told.clashes + tools.clashes; strays = told.strays + tools.strays; ending = e })
    one_apart p' e kept through hands seats drawers answered = record {
      done = h.done ++ w ∷ [];
      split = split_more;
      parts = record {
        hands = all_made_more hands_in h.done w _ _ _ h.parts.hands hands (ap (λ o. (tools_or o).hands) tools_are);
        seats = pushed seat_in h.done w _ _ _ h.parts.seats seats (ap (λ o. (tools_or o).seat) tools_are);
        drawers = pushed (λ v. v.ticket) h.done w _ _ _ h.parts.drawers drawers refl;
        answered = pushed (λ v. v.answered) h.done w _ _ _ h.parts.answered answered refl;
      };
      clashes = more (λ k. k.clashes) told.clashes h.clashes;
      strays = more (λ k. k.strays) told.strays h.strays;
      few = (few_all told.clashes tools.clashes h.few.0 few_more.0, few_all told.strays tools.strays h.few.1 few_more.1);
      kept = λ well. let both = kept well in All-push (λ v. v.ending ≢ OutOfMemory) h.done w (h.kept both.0) both.1;
      through = λ is. through_more (through is);
      back = all_front IsBack rest w (subst (All IsBack) is h.back);
    }

  -- none was taken apart yet
  pub none_apart : (all : List (Worker L)) (p : Parts L) → All IsBack all → HaveNone (length all) p
      → AreApart all all p (record { clashes = 0; strays = 0; ending = Unstarted })
  none_apart all p back none = record {
    done = [];
    split = sym (append-nil all);
    parts = record {
      hands = none_made hands_in (length all) p.hands none.hands;
      seats = none.seats.0;
      drawers = none.drawers.0;
      answered = none.answered.0;
    };
    clashes = refl;
    strays = refl;
    few = (omega arith, omega arith);
    kept = λ well. All-nil (λ v. v.ending ≢ OutOfMemory);
    through = λ is. absurd (cc);
    back = back;
  }

  -- all were taken apart
  module _ (all left : List (Worker L)) (p : Parts L) (told : Done) (none : left ≡ []) (h : AreApart all left p told) where
    all_done : all ≡ reverse h.done
    all_done = h.split ∙ ap (λ l. l ++ reverse h.done) none

    turned : reverse all ≡ h.done
    turned = ap reverse all_done ∙ reverse-reverse h.done

    pub all_dismissed : AreDismissed all p told
    all_dismissed = record {
      parts = subst (λ l. ArePartsOf l p) (sym turned) h.parts;
      clashes = h.clashes ∙ sym (ap (sum_by clashes_in) all_done ∙ sum_turned clashes_in h.done);
      strays = h.strays ∙ sym (ap (sum_by strays_in) all_done ∙ sum_turned strays_in h.done);
      kept = λ well. subst (All (λ w. w.ending ≢ OutOfMemory)) (sym all_done) (all_turned (λ w. w.ending ≢ OutOfMemory) h.done (h.kept well));
      through = λ is. subst (Any (λ w. w.ending ≡ Through)) (sym all_done) (any_turned (λ w. w.ending ≡ Through) h.done (h.through is));
    }
