-- A stream after more of its bytes.
use Rattle.std.proofs.Common.{◌≡◌, ◌≢◌, ℕ, ◌+◌, ◌-◌, min, cond, ◌<◌, ◌≤◌, ◌==◌, false, List, [], ◌∷◌, ◌++◌, length, take, drop, get_or, Option}
use Rattle.std.proofs.Common.{Result, Ok, Err, is_ok, OnOk, refl, sym, ap, ◌∙◌, subst, arith, append_assoc, append-nil, length-drop, add_assoc}
use Rattle.std.proofs.Common.{inl, inr, eq-zero-or-pos}
use Rattle.std.specs.Prelude.{string_bytes}
use Rattle.std.specs.List.{All}
use Rattle.std.proofs.lemmas.Grind.{common_steps}
use Rattle.std.proofs.lemmas.List.{take-append-drop, take_all, take_more}
use Rattle.std.proofs.lemmas.List.Elements.{All-append}
use Rattle.std.proofs.Math.Seq.{take-append-add, take-add}
use Rattle.ebpf_command.specs.declared.done.EngineFault.{EngineFault}
use Rattle.ebpf_command.specs.declared.done.EngineFault.TheVariants.{Input, Output, NoMemory}
use Rattle.ebpf_command.specs.Writing.{AppendsBeginning, Sends}
use Rattle.ebpf_command.proofs.Sending.{sends_answered, sends_more, sends_none, sends_part}
use Rattle.ebpf_stream.specs.declared.answers.Answers.{Answers}
use Rattle.ebpf_stream.specs.declared.feed.Feed.{Feed}
use Rattle.ebpf_stream.specs.Answering.{Setting, AreAnswered, IsAnswered, position_of, start}
use Rattle.ebpf_stream.specs.Feeding.{AnswersSome, IsFed, Stops, Takes}
use Rattle.ebpf_stream.specs.Streaming.{AnswersFirst}
use Rattle.ebpf_stream.proofs.LineLemmas.{answered_more, answered_whole, kept_more, nothing_kept, split_front, split_more, split_ended, take_short}

-- ---- a piece of a line

short_kept : (next kept : List ℕ) → kept ≡ take 65537 next → length kept ≤ 65537
short_kept next kept is = rw is (take_short 65537 next)

pub fed_same : (s : Setting) (seen text : List ℕ) (f g : Feed) → IsFed s seen f text → g.kept.items ≡ f.kept.items → position_of g.answers ≡ position_of f.answers
    → IsFed s seen g text
fed_same s seen text f g h kept position = record {
  lines = h.lines;
  next = h.next;
  split = h.split;
  whole = h.whole;
  kept = kept ∙ h.kept;
  answered = rw position h.answered;
}

pub fed_piece : (s : Setting) (seen piece text : List ℕ) (f g : Feed) → IsFed s seen f text → All (λ c. (c == 10) ≡ false) piece
    → (length f.kept.items ≤ 65537 → g.kept.items ≡ take 65537 (f.kept.items ++ piece)) → position_of g.answers ≡ position_of f.answers
    → IsFed s (seen ++ piece) g text
fed_piece s seen piece text f g h whole kept position = record {
  lines = h.lines;
  next = h.next ++ piece;
  split = split_more seen h.lines h.next piece h.split;
  whole = All-append (λ c. (c == 10) ≡ false) h.next piece h.whole whole;
  kept = kept (short_kept h.next f.kept.items h.kept) ∙ (ap (λ (xs : List ℕ). take 65537 (xs ++ piece)) h.kept ∙ kept_more h.next piece);
  answered = rw position h.answered;
}

-- ---- the first lines of a stream that goes on

pub first_fed : (s : Setting) (seen text : List ℕ) (f : Feed) → IsFed s seen f text → AnswersSome s seen text
first_fed s seen text f h = λ rest. (
  length h.lines,
  position_of f.answers,
  subst (λ (lines : List (List ℕ)). AreAnswered s lines start (position_of f.answers) text) (sym (split_front seen rest h.lines h.next h.split)) h.answered,
)

pub some_more : (s : Setting) (seen more text : List ℕ) → AnswersSome s seen text → AnswersSome s (seen ++ more) text
some_more s seen more text h = λ rest. subst (λ (xs : List ℕ). AnswersFirst s xs text) (sym (append_assoc seen more rest)) (h (more ++ rest))

-- with nothing more answered
pub some_fed : (s : Setting) (seen more text : List ℕ) (f : Feed) → IsFed s seen f text → AnswersSome s (seen ++ more) (text ++ [])
some_fed s seen more text f h =
    subst (λ (t : List ℕ). AnswersSome s (seen ++ more) t) (sym (append-nil text)) (some_more s seen more text (first_fed s seen text f h))

-- ---- the end of a line

fed_ended : (s : Setting) (seen piece text here : List ℕ) (f g : Feed) (h : IsFed s seen f text) → All (λ c. (c == 10) ≡ false) piece
    → IsAnswered s (h.next ++ piece) (position_of f.answers) (position_of g.answers) here → g.kept.items ≡ []
    → IsFed s (seen ++ (piece ++ 10 ∷ [])) g (text ++ here)
fed_ended s seen piece text here f g h whole answered empty =
    let one = All-append (λ c. (c == 10) ≡ false) h.next piece h.whole whole in
    subst (λ (xs : List ℕ). IsFed s xs g (text ++ here)) (append_assoc seen piece (10 ∷ [])) (record {
      lines = h.lines ++ (h.next ++ piece) ∷ [];
      next = [];
      split = split_ended (seen ++ piece) h.lines (h.next ++ piece) one (split_more seen h.lines h.next piece h.split);
      whole = λ k d below. absurd (omega (arith, below));
      kept = empty;
      answered = answered_more s h.lines (h.next ++ piece) _ _ _ text here h.answered answered;
    })

-- of which nothing came before
pub fed_direct : (s : Setting) (seen piece text here : List ℕ) (f g : Feed) → IsFed s seen f text → All (λ c. (c == 10) ≡ false) piece
    → f.kept.items ≡ [] → IsAnswered s piece (position_of f.answers) (position_of g.answers) here → g.kept.items ≡ []
    → IsFed s (seen ++ (piece ++ 10 ∷ [])) g (text ++ here)
fed_direct s seen piece text here f g h whole none answered empty =
    let nothing : h.next ≡ [] = nothing_kept h.next (sym h.kept ∙ none) in
    fed_ended s seen piece text here f g h whole
    (subst (λ (xs : List ℕ). IsAnswered s xs (position_of f.answers) (position_of g.answers) here) (sym (ap (λ (xs : List ℕ). xs ++ piece) nothing)) answered) empty

-- which is kept
pub fed_kept : (s : Setting) (seen piece text here : List ℕ) (f g : Feed) (kept : List ℕ) → IsFed s seen f text → All (λ c. (c == 10) ≡ false) piece
    → (length f.kept.items ≤ 65537 → kept ≡ take 65537 (f.kept.items ++ piece)) → IsAnswered s kept (position_of f.answers) (position_of g.answers) here
    → g.kept.items ≡ [] → IsFed s (seen ++ (piece ++ 10 ∷ [])) g (text ++ here)
fed_kept s seen piece text here f g kept h whole is answered empty =
    let same : kept ≡ take 65537 (h.next ++ piece) =
    is (short_kept h.next f.kept.items h.kept) ∙ (ap (λ (xs : List ℕ). take 65537 (xs ++ piece)) h.kept ∙ kept_more h.next piece) in
    fed_ended s seen piece text here f g h whole
    (answered_whole s (h.next ++ piece) _ _ here (subst (λ (xs : List ℕ). IsAnswered s xs (position_of f.answers) (position_of g.answers) here) same answered)) empty

-- ---- what the calls of a feed say

front_kept : (kept piece : List ℕ) (n : ℕ) → n ≡ min (65537 - length kept) (length piece) → length kept ≤ 65537
    → kept ++ take n piece ≡ take 65537 (kept ++ piece)
front_kept kept piece n is short =
    let room = 65537 - length kept in
    let whole : length kept + room ≡ 65537 = omega (arith, short) in
    let same : take n piece ≡ take room piece = rw is (grind (arith, common_steps)) in
    ap (λ (xs : List ℕ). kept ++ xs) same
    ∙ (sym (take-append-add kept piece room) ∙ ap (λ (k : ℕ). take k (kept ++ piece)) whole)

pub keeps : {T E : Type 0} (r : Result T E) (new kept piece : List ℕ) (n : ℕ) → new ≡ cond (is_ok r) (kept ++ take n piece) kept
    → n ≡ min (65537 - length kept) (length piece) → OnOk r (length kept ≤ 65537 → new ≡ take 65537 (kept ++ piece))
keeps (Err e) new kept piece n is few = tt
keeps (Ok x) new kept piece n is few = λ short. is ∙ front_kept kept piece n few short

pub ends_direct : {T E : Type 0} (r : Result T E) (s : Setting) (f g : Feed) (piece : List ℕ) → All (λ c. (c == 10) ≡ false) piece
    → f.kept.items ≡ [] → g.kept.items ≡ []
    → OnOk r ((here : List ℕ) × IsAnswered s piece (position_of f.answers) (position_of g.answers) here × (string_bytes g.answers.text ≡ string_bytes f.answers.text ++ here))
    → OnOk r ((seen text : List ℕ) → IsFed s seen f text
    → (here : List ℕ) × IsFed s (seen ++ (piece ++ 10 ∷ [])) g (text ++ here) × (string_bytes g.answers.text ≡ string_bytes f.answers.text ++ here))
ends_direct (Err e) s f g piece whole none empty h = tt
ends_direct (Ok x) s f g piece whole none empty h = λ seen text fed.
    (h.0, fed_direct s seen piece text h.0 f g fed whole none h.1 empty, h.2)

pub ends_kept : {T E : Type 0} (r : Result T E) (s : Setting) (f m g : Feed) (piece : List ℕ) → All (λ c. (c == 10) ≡ false) piece
    → (length f.kept.items ≤ 65537 → m.kept.items ≡ take 65537 (f.kept.items ++ piece)) → m.answers ≡ f.answers
    → OnOk r ((here : List ℕ) × IsAnswered s m.kept.items (position_of m.answers) (position_of g.answers) here × (string_bytes g.answers.text ≡ string_bytes m.answers.text ++ here))
    → OnOk r (g.kept.items ≡ [])
    → OnOk r ((seen text : List ℕ) → IsFed s seen f text
    → (here : List ℕ) × IsFed s (seen ++ (piece ++ 10 ∷ [])) g (text ++ here) × (string_bytes g.answers.text ≡ string_bytes f.answers.text ++ here))
ends_kept (Err e) s f m g piece whole kept same h empty = tt
ends_kept (Ok x) s f m g piece whole kept same h empty = λ seen text fed. (
  h.0,
  fed_kept s seen piece text h.0 f g m.kept.items fed whole kept
      (subst (λ (a : Answers). IsAnswered s m.kept.items (position_of a) (position_of g.answers) h.0) same h.1) empty,
  h.2 ∙ ap (λ (a : Answers). string_bytes a.text ++ h.0) same,
)

-- ---- bytes that are taken, one piece after another

module _ (s : Setting) where
  pub takes_more : (a b c : Option (List ℕ)) (f g h : Feed) (xs ys : List ℕ) → Takes s a b f g xs (Ok tt) → Takes s b c g h ys (Ok tt)
      → Takes s a c f h (xs ++ ys) (Ok tt)
  takes_more a b c f g h xs ys first then = λ seen text fed.
      let one = first seen text fed in
      let two = then (seen ++ xs) (text ++ one.0) one.1 in (
        one.0 ++ two.0,
        subst (λ (bs : List ℕ). IsFed s bs h (text ++ (one.0 ++ two.0))) (append_assoc seen xs ys)
            (subst (λ (t : List ℕ). IsFed s ((seen ++ xs) ++ ys) h t) (append_assoc text one.0 two.0) two.1),
        sends_more a b c _ _ _ one.0 two.0 one.2 two.2,
      )

  stops_more : (fault : EngineFault) (a b c : Option (List ℕ)) (x y z t u : List ℕ) → Sends a b x y t → Stops fault b c y z u → Stops fault a c x z (t ++ u)
  stops_more Output a b c x y z t u h k =
      let all : h.sent ++ (y ++ u) ≡ x ++ (t ++ u) =
      sym (append_assoc h.sent y u) ∙ (ap (λ (xs : List ℕ). xs ++ u) h.all ∙ append_assoc x t u) in
      sends_part a b c x (y ++ u) (t ++ u) (record { sent = h.sent; written = h.written; all = all }) k
  stops_more Input a b c x y z t u h k = sends_more a b c x y z t u h k
  stops_more NoMemory a b c x y z t u h k = sends_more a b c x y z t u h k

  pub takes_stops : (fault : EngineFault) (a b c : Option (List ℕ)) (f g h : Feed) (xs ys : List ℕ) → Takes s a b f g xs (Ok tt) → Takes s b c g h ys (Err fault)
      → Takes s a c f h (xs ++ ys) (Err fault)
  takes_stops fault a b c f g h xs ys first then = λ seen text fed.
      let one = first seen text fed in
      let two = then (seen ++ xs) (text ++ one.0) one.1 in (
        one.0 ++ two.0,
        subst (λ (bs : List ℕ). AnswersSome s bs (text ++ (one.0 ++ two.0))) (append_assoc seen xs ys)
            (subst (λ (t : List ℕ). AnswersSome s ((seen ++ xs) ++ ys) t) (append_assoc text one.0 two.0) two.1),
        stops_more fault a b c _ _ _ one.0 two.0 one.2 two.2,
      )

  -- of more bytes no more are taken
  pub takes_fewer : (fault : EngineFault) (a b : Option (List ℕ)) (f g : Feed) (xs ys : List ℕ) → Takes s a b f g xs (Err fault)
      → Takes s a b f g (xs ++ ys) (Err fault)
  takes_fewer fault a b f g xs ys stops = λ seen text fed.
      let one = stops seen text fed in
      (one.0, subst (λ (bs : List ℕ). AnswersSome s bs (text ++ one.0)) (append_assoc seen xs ys) (some_more s (seen ++ xs) ys (text ++ one.0) one.1), one.2)

  pub takes_nothing : (a : Option (List ℕ)) (f : Feed) → Takes s a a f f [] (Ok tt)
  takes_nothing a f = λ seen text fed. (
    [],
    subst (λ (bs : List ℕ). IsFed s bs f (text ++ [])) (sym (append-nil seen)) (subst (λ (t : List ℕ). IsFed s seen f t) (sym (append-nil text)) fed),
    sends_none a _ _ refl,
  )

-- ---- each step of it

line_taken : (bytes : List ℕ) (from n : ℕ) → from + n < length bytes → get_or (drop from bytes) n 0 ≡ 10
    → take (from + n + 1) bytes ≡ take from bytes ++ (take n (drop from bytes) ++ 10 ∷ [])
line_taken bytes from n inside ten =
    ap (λ (k : ℕ). take k bytes) (add_assoc from n 1)
    ∙ (take-add from (n + 1) bytes
    ∙ (ap (λ (xs : List ℕ). take from bytes ++ xs) (take_more (drop from bytes) n 0 (omega (arith, inside, length-drop from bytes)))
    ∙ ap (λ (c : ℕ). take from bytes ++ (take n (drop from bytes) ++ c ∷ [])) ten))

nothing_more : (s : Setting) (seen text : List ℕ) (f : Feed) → IsFed s seen f text → IsFed s (seen ++ []) f (text ++ [])
nothing_more s seen text f h =
    subst (λ (bs : List ℕ). IsFed s bs f (text ++ [])) (sym (append-nil seen)) (subst (λ (t : List ℕ). IsFed s seen f t) (sym (append-nil text)) h)

module _ (s : Setting) where
  -- a piece is kept
  pub takes_piece : (a : Option (List ℕ)) (f g : Feed) (piece : List ℕ) → All (λ c. (c == 10) ≡ false) piece
      → (length f.kept.items ≤ 65537 → g.kept.items ≡ take 65537 (f.kept.items ++ piece)) → g.answers ≡ f.answers → Takes s a a f g piece (Ok tt)
  takes_piece a f g piece whole kept same = λ seen text fed. (
    [],
    subst (λ (t : List ℕ). IsFed s (seen ++ piece) g t) (sym (append-nil text))
        (fed_piece s seen piece text f g fed whole kept (ap position_of same)),
    sends_none a _ _ (ap (λ (x : Answers). string_bytes x.text) same),
  )

  -- or can't be
  pub takes_no_piece : (a : Option (List ℕ)) (f g : Feed) (piece : List ℕ) → g.answers ≡ f.answers → Takes s a a f g piece (Err NoMemory)
  takes_no_piece a f g piece same = λ seen text fed.
      ([], some_fed s seen piece text f fed, sends_none a _ _ (ap (λ (x : Answers). string_bytes x.text) same))

  -- a line is ended
  pub takes_line : (a : Option (List ℕ)) (f g : Feed) (line : List ℕ)
      → ((seen text : List ℕ) → IsFed s seen f text → (here : List ℕ) × IsFed s (seen ++ line) g (text ++ here) × (string_bytes g.answers.text ≡ string_bytes f.answers.text ++ here))
      → Takes s a a f g line (Ok tt)
  takes_line a f g line ended = λ seen text fed.
      let e = ended seen text fed in
      (e.0, e.1, sends_answered a _ _ e.0 e.2)

  stops_none : (fault : EngineFault) (a : Option (List ℕ)) (x y : List ℕ) → fault ≢ Output → y ≡ x → Stops fault a a x y []
  stops_none Output a x y other same = absurd (other refl)
  stops_none Input a x y other same = sends_none a x y same
  stops_none NoMemory a x y other same = sends_none a x y same

  -- or can't be
  pub takes_no_line : (fault : EngineFault) (a : Option (List ℕ)) (f g : Feed) (piece : List ℕ) → fault ≢ Output
      → string_bytes g.answers.text ≡ string_bytes f.answers.text
      → Takes s a a f g piece (Err fault)
  takes_no_line fault a f g piece other same = λ seen text fed. ([], some_fed s seen piece text f fed, stops_none fault a _ _ other same)

  -- what is answered is written, where it is long
  pub takes_relief : (a b : Option (List ℕ)) (f g : Feed) → g.kept ≡ f.kept → position_of g.answers ≡ position_of f.answers
      → Sends a b (string_bytes f.answers.text) (string_bytes g.answers.text) [] → Takes s a b f g [] (Ok tt)
  takes_relief a b f g kept position sends = λ seen text fed. (
    [],
    nothing_more s seen text g (fed_same s seen text f g fed (ap (λ v. v.items) kept) position),
    sends,
  )

  -- or can't be
  pub takes_no_relief : (a b : Option (List ℕ)) (f g : Feed) → AppendsBeginning a b (string_bytes f.answers.text) → Takes s a b f g [] (Err Output)
  takes_no_relief a b f g begun = λ seen text fed.
      ([], some_fed s seen [] text f fed, subst (λ (xs : List ℕ). AppendsBeginning a b xs) (sym (append-nil (string_bytes f.answers.text))) begun)

  -- ---- all steps of a line, after those before

  pub takes_next : (a b c : Option (List ℕ)) (e f g h : Feed) (bytes : List ℕ) (from n : ℕ) → from + n < length bytes → get_or (drop from bytes) n 0 ≡ 10
      → Takes s a b e f (take from bytes) (Ok tt) → Takes s b b f g (take n (drop from bytes) ++ 10 ∷ []) (Ok tt) → Takes s b c g h [] (Ok tt)
      → Takes s a c e h (take (from + n + 1) bytes) (Ok tt)
  takes_next a b c e f g h bytes from n inside ten before line relief =
      let one = takes_more s a b b e f g _ _ before line in
      subst (λ (xs : List ℕ). Takes s a c e h xs (Ok tt)) (append-nil (take from bytes ++ (take n (drop from bytes) ++ 10 ∷ [])) ∙ sym (line_taken bytes from n inside ten))
      (takes_more s a b c e g h _ [] one relief)

  -- the rest of the bytes is one piece
  pub takes_last : (a b c : Option (List ℕ)) (e f g : Feed) (bytes : List ℕ) (from : ℕ) → Takes s a b e f (take from bytes) (Ok tt)
      → Takes s b c f g (drop from bytes) (Ok tt) → Takes s a c e g bytes (Ok tt)
  takes_last a b c e f g bytes from before last =
      subst (λ (xs : List ℕ). Takes s a c e g xs (Ok tt)) (take-append-drop from bytes) (takes_more s a b c e f g _ _ before last)

  -- it stops in a part of the bytes
  pub takes_until : (fault : EngineFault) (a b c : Option (List ℕ)) (e f g : Feed) (bytes part : List ℕ) (from n : ℕ) → part ≡ take n (drop from bytes)
      → Takes s a b e f (take from bytes) (Ok tt) → Takes s b c f g part (Err fault) → Takes s a c e g bytes (Err fault)
  takes_until fault a b c e f g bytes part from n is before stops =
      let here = takes_stops s fault a b c e f g _ _ before (takes_fewer s fault b c f g part (drop n (drop from bytes)) stops) in
      subst (λ (xs : List ℕ). Takes s a c e g xs (Err fault))
      (ap (λ (xs : List ℕ). take from bytes ++ (xs ++ drop n (drop from bytes))) is
      ∙ (ap (λ (xs : List ℕ). take from bytes ++ xs) (take-append-drop n (drop from bytes)) ∙ take-append-drop from bytes)) here

  -- or after a line
  pub takes_until_relief : (a b c : Option (List ℕ)) (e f g h : Feed) (bytes : List ℕ) (from n : ℕ) → from + n < length bytes → get_or (drop from bytes) n 0 ≡ 10
      → Takes s a b e f (take from bytes) (Ok tt) → Takes s b b f g (take n (drop from bytes) ++ 10 ∷ []) (Ok tt) → Takes s b c g h [] (Err Output)
      → Takes s a c e h bytes (Err Output)
  takes_until_relief a b c e f g h bytes from n inside ten before line stops =
      let one = takes_more s a b b e f g _ _ before line in
      let here = takes_stops s Output a b c e g h _ [] one stops in
      subst (λ (xs : List ℕ). Takes s a c e h xs (Err Output))
      (ap (λ (xs : List ℕ). xs ++ drop (from + n + 1) bytes) (append-nil (take from bytes ++ (take n (drop from bytes) ++ 10 ∷ [])) ∙ sym (line_taken bytes from n inside ten))
      ∙ take-append-drop (from + n + 1) bytes)
      (takes_fewer s Output a c e h _ (drop (from + n + 1) bytes) here)

-- ---- where a line ends in the bytes that are left

pub whole_rest : (n : ℕ) (rest : List ℕ) → n ≡ length rest → All (λ c. (c == 10) ≡ false) (take n rest) → All (λ c. (c == 10) ≡ false) rest
whole_rest n rest is whole = subst (λ (xs : List ℕ). All (λ c. (c == 10) ≡ false) xs) (take_all n rest (omega (arith, is))) whole

pub below_end : (bytes rest : List ℕ) (from n : ℕ) → rest ≡ drop from bytes → from ≤ length bytes → n ≤ length rest → (n ≡ length rest → ⊥) → from + n < length bytes
below_end bytes rest from n is within most other =
    let long : length rest ≡ length bytes - from = ap length is ∙ length-drop from bytes in
    elim (eq-zero-or-pos (length rest - n)) [
      | inl none ↦ absurd (other (omega (arith, none, most)))
      | inr more ↦ omega (arith, more, long, within)
    ]

pub ten_there : (bytes rest : List ℕ) (from n : ℕ) → rest ≡ drop from bytes → get_or rest n 0 ≡ 10 → get_or (drop from bytes) n 0 ≡ 10
ten_there bytes rest from n is ten = ap (λ (xs : List ℕ). get_or xs n 0) (sym is) ∙ ten
