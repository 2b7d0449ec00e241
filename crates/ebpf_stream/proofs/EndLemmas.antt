-- A stream whose bytes are taken and written, and its end.
use Rattle.std.proofs.Common.{◌≡◌, ◌≢◌, ℕ, List, [], ◌∷◌, ◌++◌, take, Option, Some, None, Result, Ok, Err, inl, inr, refl, sym, ap, ◌∙◌, subst}
use Rattle.std.proofs.Common.{arith, append_assoc, append-nil}
use Rattle.std.specs.Prelude.{string_bytes}
use Rattle.std.specs.Io.KnownBytes.{Appends, Consumes, IsAtEnd}
use Rattle.ebpf_command.specs.declared.done.EngineFault.{EngineFault}
use Rattle.ebpf_command.specs.declared.done.EngineFault.TheVariants.{Input, Output, NoMemory}
use Rattle.ebpf_command.specs.Writing.{AppendsBeginning, Sends}
use Rattle.ebpf_command.proofs.Known.{Appends-more, Consumes-more}
use Rattle.ebpf_command.proofs.Sending.{begins_after, sends_all, sends_part}
use Rattle.ebpf_stream.specs.declared.feed.Feed.{Feed}
use Rattle.ebpf_stream.specs.declared.totals.MachineTotals.{MachineTotals}
use Rattle.ebpf_stream.specs.Answering.{Setting, Position, IsAnswered, position_of, start}
use Rattle.ebpf_stream.specs.Feeding.{Finishes, IsFed, Leaves, Serves, Stops, Takes, TakesAll}
use Rattle.ebpf_stream.specs.Streaming.{AnswersFirst}
use Rattle.ebpf_stream.specs.Totals.{TellAllLeft, totals_in}
use Rattle.ebpf_stream.proofs.FeedLemmas.{fed_same, first_fed}
use Rattle.ebpf_stream.proofs.LineLemmas.{split_none}
use Rattle.ebpf_stream.proofs.ServeLemmas.{IsServed, all_ended, all_lines, first_all, leaves_all, leaves_none, part_of, serves_cut, serves_ended, serves_part}

Consumes-none : (a : Option (List ℕ)) → Consumes a a []
Consumes-none None = tt
Consumes-none (Some xs) = refl

take_zero : (xs : List ℕ) → take 0 xs ≡ []
take_zero [] = refl
take_zero (x ∷ xs) = refl

module _ (s : Setting) where
  -- ---- all that is answered is written

  -- where no write failed, what was answered before a fault was sent or waits
  stops_sends : (fault : EngineFault) (a b : Option (List ℕ)) (x y t : List ℕ) → fault ≢ Output → Stops fault a b x y t → Sends a b x y t
  stops_sends Output a b x y t other h = absurd (other refl)
  stops_sends Input a b x y t other h = h
  stops_sends NoMemory a b x y t other h = h

  pub all_written : (r : Result (Unit {0}) EngineFault) (a b c : Option (List ℕ)) (f g h : Feed) (bytes : List ℕ) → Takes s a b f g bytes r → r ≢ Err Output → Appends b c (string_bytes g.answers.text)
      → string_bytes h.answers.text ≡ [] → h.kept.items ≡ g.kept.items → position_of h.answers ≡ position_of g.answers → TakesAll s a c f h bytes r
  all_written (Ok done) a b c f g h bytes takes other written empty kept position = λ seen text fed.
      let t = takes seen text fed in
      (t.0, fed_same s (seen ++ bytes) (text ++ t.0) g h t.1 kept position, sends_all a b c _ _ t.0 t.2 written, empty)
  all_written (Err fault) a b c f g h bytes takes other written empty kept position = λ seen text fed.
      let t = takes seen text fed in
      let sends = stops_sends fault a b _ _ t.0 (λ same. other (ap Err same)) t.2 in
      (t.0, t.1, leaves_all fault a c _ (sends_all a b c _ _ t.0 sends written))

  pub part_written : (r : Result (Unit {0}) EngineFault) (a b c : Option (List ℕ)) (f g h : Feed) (bytes : List ℕ) → Takes s a b f g bytes r → r ≢ Err Output → AppendsBeginning b c (string_bytes g.answers.text)
      → TakesAll s a c f h bytes (Err Output)
  part_written (Ok done) a b c f g h bytes takes other begun = λ seen text fed.
      let t = takes seen text fed in (t.0, first_fed s (seen ++ bytes) (text ++ t.0) g t.1, sends_part a b c _ _ t.0 t.2 begun)
  part_written (Err fault) a b c f g h bytes takes other begun = λ seen text fed.
      let t = takes seen text fed in
      let sends = stops_sends fault a b _ _ t.0 (λ same. other (ap Err same)) t.2 in
      (t.0, t.1, sends_part a b c _ _ t.0 sends begun)

  -- ---- the end of a stream

  pub finishes : (a b c : Option (List ℕ)) (f g : Feed) (here : List ℕ) (totals : MachineTotals) → IsAnswered s f.kept.items (position_of f.answers) (position_of g.answers) here
      → TellAllLeft (position_of g.answers).shelves totals → Appends a b here → Appends b c (totals_in s.format totals) → Finishes s a c f g (Ok tt)
  finishes a b c f g here totals answered left first then = λ seen text fed. (
    here ++ totals_in s.format totals,
    all_ended s seen text here (position_of g.answers) totals (all_lines s seen text here f (position_of g.answers) fed answered) left,
    Appends-more a b c here (totals_in s.format totals) first then,
  )

  first_here : (seen text : List ℕ) (f : Feed) → IsFed s seen f text → AnswersFirst s seen (text ++ [])
  first_here seen text f fed =
      subst (λ (xs : List ℕ). AnswersFirst s xs (text ++ [])) (append-nil seen) (subst (λ (t : List ℕ). AnswersFirst s (seen ++ []) t) (sym (append-nil text)) (first_fed s seen text f fed []))

  pub finishes_unanswered : (fault : EngineFault) (a : Option (List ℕ)) (f g : Feed) → Finishes s a a f g (Err fault)
  finishes_unanswered fault a f g = λ seen text fed. ([], part_of s fault seen (text ++ []) (first_here seen text f fed), leaves_none s fault a)

  pub finishes_unwritten : (a b : Option (List ℕ)) (f g : Feed) (here : List ℕ) → IsAnswered s f.kept.items (position_of f.answers) (position_of g.answers) here
      → AppendsBeginning a b here → Finishes s a b f g (Err Output)
  finishes_unwritten a b f g here answered begun = λ seen text fed.
      (here, inl (first_all s seen (text ++ here) (position_of g.answers) (all_lines s seen text here f (position_of g.answers) fed answered)), begun)

  pub finishes_untold : (a b : Option (List ℕ)) (f g : Feed) (here : List ℕ) → IsAnswered s f.kept.items (position_of f.answers) (position_of g.answers) here
      → Appends a b here → Finishes s a b f g (Err NoMemory)
  finishes_untold a b f g here answered written = λ seen text fed.
      (here, first_all s seen (text ++ here) (position_of g.answers) (all_lines s seen text here f (position_of g.answers) fed answered), written)

  pub finishes_unended : (a b c : Option (List ℕ)) (f g : Feed) (here : List ℕ) (totals : MachineTotals) → IsAnswered s f.kept.items (position_of f.answers) (position_of g.answers) here
      → TellAllLeft (position_of g.answers).shelves totals → Appends a b here → AppendsBeginning b c (totals_in s.format totals) → Finishes s a c f g (Err Output)
  finishes_unended a b c f g here totals answered left first begun = λ seen text fed. (
    here ++ totals_in s.format totals,
    inr (position_of g.answers, all_ended s seen text here (position_of g.answers) totals (all_lines s seen text here f (position_of g.answers) fed answered) left),
    begins_after a b c here (totals_in s.format totals) first begun,
  )

  -- ---- what the loop over a stream knows

  pub served_first : (input old new : Option (List ℕ)) (waited : List ℕ) (f : Feed) → f.kept.items ≡ [] → position_of f.answers ≡ start → Appends old new waited
      → IsServed s input input old new waited f
  served_first input old new waited f kept position written = record {
    seen = [];
    text = [];
    read = Consumes-none input;
    fed = record { lines = []; next = []; split = split_none; whole = λ k d below. absurd (omega (arith, below)); kept = kept; answered = (position, refl) };
    written = subst (λ (xs : List ℕ). Appends old new xs) (sym (append-nil waited)) written;
  }

  pub served_more : (input left rest old mid new : Option (List ℕ)) (waited bytes : List ℕ) (f g : Feed) → IsServed s input left old mid waited f
      → string_bytes f.answers.text ≡ [] → Consumes left rest bytes → TakesAll s mid new f g bytes (Ok tt)
      → IsServed s input rest old new waited g × (string_bytes g.answers.text ≡ [])
  served_more input left rest old mid new waited bytes f g h empty read takes =
      let t = takes h.seen h.text h.fed in (
        record {
          seen = h.seen ++ bytes;
          text = h.text ++ t.0;
          read = Consumes-more input left rest h.seen bytes h.read read;
          fed = t.1;
          written = subst (λ (xs : List ℕ). Appends old new xs) (append_assoc waited h.text t.0)
              (Appends-more old mid new (waited ++ h.text) t.0 h.written (subst (λ (xs : List ℕ). Appends mid new (xs ++ t.0)) empty t.2));
        },
        t.3,
      )

  pub served_part : (fault : EngineFault) (input left rest old mid new : Option (List ℕ)) (waited bytes : List ℕ) (f g : Feed) (after : Position) → IsServed s input left old mid waited f
      → string_bytes f.answers.text ≡ [] → Consumes left rest bytes → TakesAll s mid new f g bytes (Err fault)
      → Serves s input old new after waited (Err fault)
  served_part fault input left rest old mid new waited bytes f g after h empty read takes =
      let t = takes h.seen h.text h.fed in
      serves_part s fault input rest old mid new waited (h.seen ++ bytes) h.text t.0 after (Consumes-more input left rest h.seen bytes h.read read) h.written t.1
      (subst (λ (xs : List ℕ). Leaves fault mid new (xs ++ t.0)) empty t.2)

  read_nothing : (a b c : Option (List ℕ)) (seen buf : List ℕ) (n : ℕ) → n ≡ 0 → Consumes a b seen → Consumes b c (take n buf) → Consumes a c seen
  read_nothing a b c seen buf n none h k =
      let nothing : take n buf ≡ [] = ap (λ (m : ℕ). take m buf) none ∙ take_zero buf in
      subst (λ (xs : List ℕ). Consumes a c xs) (append-nil seen) (Consumes-more a b c seen [] h (subst (λ (xs : List ℕ). Consumes b c xs) nothing k))

  pub served_all : (r : Result (Unit {0}) EngineFault) (input left rest old mid new : Option (List ℕ)) (waited buf : List ℕ) (n : ℕ) (f g : Feed) → IsServed s input left old mid waited f
      → n ≡ 0 → Consumes left rest (take n buf) → IsAtEnd rest → Finishes s mid new f g r → Serves s input old new (position_of g.answers) waited r
  served_all (Ok done) input left rest old mid new waited buf n f g h none read end finishes =
      let t = finishes h.seen h.text h.fed in
      serves_ended s input rest old mid new waited h.seen h.text t.0 (position_of g.answers) (read_nothing input left rest h.seen buf n none h.read read) end h.written t.1 t.2
  served_all (Err fault) input left rest old mid new waited buf n f g h none read end finishes =
      let t = finishes h.seen h.text h.fed in
      serves_cut s fault input rest old mid new waited h.seen h.text t.0 (position_of g.answers) (read_nothing input left rest h.seen buf n none h.read read) end h.written t.1 t.2
