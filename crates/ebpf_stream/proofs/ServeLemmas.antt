-- A stream that is answered to its end, or to a fault.
use Rattle.std.proofs.Common.{◌≡◌, ℕ, List, [], ◌++◌, length, Option, Some, None, Ok, Err, inl, refl, sym, ap, ◌∙◌, subst, arith, append_assoc, append-nil}
use Rattle.std.specs.Io.KnownBytes.{Appends, Consumes, IsAtEnd}
use Rattle.std.proofs.lemmas.List.{take_all}
use Rattle.ebpf_command.specs.declared.done.EngineFault.{EngineFault}
use Rattle.ebpf_command.specs.declared.done.EngineFault.TheVariants.{Input, Output, NoMemory}
use Rattle.ebpf_command.specs.Writing.{AppendsBeginning}
use Rattle.ebpf_command.proofs.Known.{Appends-more}
use Rattle.ebpf_command.proofs.Sending.{Appends-none, begins, begins_after}
use Rattle.ebpf_reader.specs.ScriptLines.{script_lines}
use Rattle.ebpf_stream.specs.declared.feed.Feed.{Feed}
use Rattle.ebpf_stream.specs.declared.totals.MachineTotals.{MachineTotals}
use Rattle.ebpf_stream.specs.Answering.{Setting, Position, IsAnswered, AreAnswered, position_of, start}
use Rattle.ebpf_stream.specs.Feeding.{IsFed, AnswersPart, AnswersSome, Leaves, Serves}
use Rattle.ebpf_stream.specs.Streaming.{AnswersFirst, AnswersAll}
use Rattle.ebpf_stream.specs.Totals.{TellAllLeft, totals_in}
use Rattle.ebpf_stream.proofs.FeedLemmas.{first_fed}
use Rattle.ebpf_stream.proofs.LineLemmas.{answered_more, answered_whole, split_all}

-- all of it was written, whatever fault comes then
pub leaves_all : (fault : EngineFault) (a b : Option (List ℕ)) (text : List ℕ) → Appends a b text → Leaves fault a b text
leaves_all Output a b text h = begins a b text h
leaves_all Input a b text h = h
leaves_all NoMemory a b text h = h

module _ (s : Setting) where
  -- ---- how far a stream is answered

  pub first_none : (input : List ℕ) → AnswersFirst s input []
  first_none input = (0, start, (refl, refl))

  -- the last line is answered
  pub all_lines : (seen text here : List ℕ) (feed : Feed) (after : Position) → IsFed s seen feed text → IsAnswered s feed.kept.items (position_of feed.answers) after here
      → AreAnswered s (script_lines seen) start after (text ++ here)
  all_lines seen text here feed after h answered =
      subst (λ (lines : List (List ℕ)). AreAnswered s lines start after (text ++ here)) (sym (split_all seen h.lines h.next h.whole h.split))
      (answered_more s h.lines h.next start (position_of feed.answers) after text here h.answered
      (answered_whole s h.next (position_of feed.answers) after here (subst (λ (xs : List ℕ). IsAnswered s xs (position_of feed.answers) after here) h.kept answered)))

  pub first_all : (seen text : List ℕ) (after : Position) → AreAnswered s (script_lines seen) start after text → AnswersFirst s seen text
  first_all seen text after h = (
    length (script_lines seen),
    after,
    subst (λ (lines : List (List ℕ)). AreAnswered s lines start after text) (sym (take_all (length (script_lines seen)) (script_lines seen) (omega arith))) h,
  )

  -- and the end
  pub all_ended : (seen text here : List ℕ) (after : Position) (totals : MachineTotals) → AreAnswered s (script_lines seen) start after (text ++ here)
      → TellAllLeft after.shelves totals → AnswersAll s seen after (text ++ (here ++ totals_in s.format totals))
  all_ended seen text here after totals h left = (text ++ here, totals, h, left, sym (append_assoc text here (totals_in s.format totals)))

  pub part_of : (fault : EngineFault) (input text : List ℕ) → AnswersFirst s input text → AnswersPart fault s input text
  part_of Output input text h = inl h
  part_of Input input text h = h
  part_of NoMemory input text h = h

  pub leaves_none : (fault : EngineFault) (a : Option (List ℕ)) → Leaves fault a a []
  leaves_none fault a = leaves_all fault a a [] (Appends-none a)

  pub leaves_after : (fault : EngineFault) (a b c : Option (List ℕ)) (x y : List ℕ) → Appends a b x → Leaves fault b c y → Leaves fault a c (x ++ y)
  leaves_after Output a b c x y h k = begins_after a b c x y h k
  leaves_after Input a b c x y h k = Appends-more a b c x y h k
  leaves_after NoMemory a b c x y h k = Appends-more a b c x y h k

  -- ---- what a loop over the stream knows

  -- these bytes were read, and what was answered is written
  pub record IsServed (input left old new : Option (List ℕ)) (waited : List ℕ) (feed : Feed) : Type 0 where
    pub seen : List ℕ
    pub text : List ℕ
    pub read : Consumes input left seen
    pub fed : IsFed s seen feed text
    pub written : Appends old new (waited ++ text)

  -- it ends with nothing more written
  pub serves_stopped : (fault : EngineFault) (input left old new : Option (List ℕ)) (waited : List ℕ) (feed : Feed) (after : Position)
      → IsServed input left old new waited feed → Serves s input old new after waited (Err fault)
  serves_stopped fault None left old new waited feed after h = tt
  serves_stopped fault (Some all) None old new waited feed after h = absurd h.read
  serves_stopped fault (Some all) (Some rest) old new waited feed after h = (
    h.text,
    part_of fault all h.text (subst (λ (xs : List ℕ). AnswersFirst s xs h.text) (sym h.read) (first_fed s h.seen h.text feed h.fed rest)),
    leaves_all fault old new (waited ++ h.text) h.written,
  )

  -- nothing was read
  pub serves_nothing : (input old new : Option (List ℕ)) (waited : List ℕ) (after : Position) → AppendsBeginning old new waited
      → Serves s input old new after waited (Err Output)
  serves_nothing None old new waited after h = tt
  serves_nothing (Some all) old new waited after h =
      ([], inl (first_none all), subst (λ (xs : List ℕ). AppendsBeginning old new xs) (sym (append-nil waited)) h)

  all_read : (all left : List ℕ) (seen : List ℕ) → all ≡ seen ++ left → left ≡ [] → seen ≡ all
  all_read all left seen read end = sym (append-nil seen) ∙ (ap (λ (xs : List ℕ). seen ++ xs) (sym end) ∙ sym read)

  -- all was read, and the end is answered
  pub serves_ended : (input left old mid new : Option (List ℕ)) (waited seen text more : List ℕ) (after : Position) → Consumes input left seen → IsAtEnd left
      → Appends old mid (waited ++ text) → AnswersAll s seen after (text ++ more) → Appends mid new more → Serves s input old new after waited (Ok tt)
  serves_ended None left old mid new waited seen text more after read end written answers last = tt
  serves_ended (Some all) None old mid new waited seen text more after read end written answers last = absurd read
  serves_ended (Some all) (Some left) old mid new waited seen text more after read end written answers last = (
    text ++ more,
    subst (λ (xs : List ℕ). AnswersAll s xs after (text ++ more)) (all_read all left seen read end) answers,
    subst (λ (xs : List ℕ). Appends old new xs) (append_assoc waited text more) (Appends-more old mid new (waited ++ text) more written last),
  )

  -- or it could not be
  pub serves_cut : (fault : EngineFault) (input left old mid new : Option (List ℕ)) (waited seen text more : List ℕ) (after : Position) → Consumes input left seen → IsAtEnd left
      → Appends old mid (waited ++ text) → AnswersPart fault s seen (text ++ more) → Leaves fault mid new more → Serves s input old new after waited (Err fault)
  serves_cut fault None left old mid new waited seen text more after read end written answers last = tt
  serves_cut fault (Some all) None old mid new waited seen text more after read end written answers last = absurd read
  serves_cut fault (Some all) (Some left) old mid new waited seen text more after read end written answers last = (
    text ++ more,
    subst (λ (xs : List ℕ). AnswersPart fault s xs (text ++ more)) (all_read all left seen read end) answers,
    subst (λ (xs : List ℕ). Leaves fault old new xs) (append_assoc waited text more) (leaves_after fault old mid new (waited ++ text) more written last),
  )

  -- some of the bytes that were read could not be answered
  pub serves_part : (fault : EngineFault) (input left old mid new : Option (List ℕ)) (waited seen text more : List ℕ) (after : Position)
      → Consumes input left seen → Appends old mid (waited ++ text) → AnswersSome s seen (text ++ more) → Leaves fault mid new more
      → Serves s input old new after waited (Err fault)
  serves_part fault None left old mid new waited seen text more after read written answers last = tt
  serves_part fault (Some all) None old mid new waited seen text more after read written answers last = absurd read
  serves_part fault (Some all) (Some left) old mid new waited seen text more after read written answers last = (
    text ++ more,
    part_of fault all (text ++ more) (subst (λ (xs : List ℕ). AnswersFirst s xs (text ++ more)) (sym read) (answers left)),
    subst (λ (xs : List ℕ). Leaves fault old new xs) (append_assoc waited text more) (leaves_after fault old mid new (waited ++ text) more written last),
  )
