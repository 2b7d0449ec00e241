-- The labels of a text, line by line, and the lines without them.
use Rattle.std.proofs.Common.{◌≡◌, ◌≢◌, ℕ, ◌+◌, ◌<◌, ◌≤◌, Bool, true, false, ◌==◌, if◌then◌else◌, List, [], ◌∷◌, ◌++◌, length, get_or}
use Rattle.std.proofs.Common.{slice_index_or, drop, take, map, Option, Some, None, option_map, Bor, refl, sym, ap, ◌∙◌, append_assoc, append-nil}
use Rattle.std.proofs.Common.{arith}
use Rattle.std.specs.Prelude.{codes}
use Rattle.std.specs.Option.{MatchOption}
use Rattle.std.specs.List.{take-map}
use Rattle.std.proofs.lemmas.List.{at_drop_more, at_drop_all, take_all, length-map, get_or_default, get_or_past}
use Rattle.ebpf_assembly.specs.Lines.{words}
use Rattle.std.specs.Str.{bytes_eq}
use Rattle.ebpf_assembly.specs.declared.label.Label.{Label}
use Rattle.ebpf_assembly.specs.Labels.{names_of, named_by_label}
use Rattle.ebpf_assembly.specs.Names.{before_colon, label_of, labels_from, slot_after, slot_of, Named, plain_lines, plain_words, words_text}
use Rattle.ebpf_assembly.specs.Names.{own_words, with_target, target_text, targeted, is_jump}

-- what comes before the colon of a word
last_colon : (c : ℕ) → (c == 58) ≡ true → c ≡ 58
last_colon c e = grind (arith)

back : (label : List ℕ) → before_colon (label ++ codes ":") ≡ Some label
unfolding before_colon
back [] = refl
back (x ∷ []) = refl
back (x ∷ y ∷ label) = ap (λ (o : Option (List ℕ)). option_map (λ l. x ∷ l) o) (back (y ∷ label))

some_is : {A : Type 0} (x y : A) → Some x ≡ Some y → x ≡ y
some_is x y e = cc

none_some : {A : Type 0} (x : A) → None ≡ Some x → ⊥
none_some x e = cc

more : (c : ℕ) (word label : List ℕ) → ((l : List ℕ) → before_colon word ≡ Some l → word ≡ l ++ codes ":")
    → option_map (λ l. c ∷ l) (before_colon word) ≡ Some label → c ∷ word ≡ label ++ codes ":"
more c word label sound_of e = which (before_colon word) refl e where
  which : (o : Option (List ℕ)) → before_colon word ≡ o → option_map (λ l. c ∷ l) o ≡ Some label → c ∷ word ≡ label ++ codes ":"
  which None is f = absurd (none_some label f)
  which (Some l) is f = ap (λ (xs : List ℕ). c ∷ xs) (sound_of l is) ∙ ap (λ (xs : List ℕ). xs ++ codes ":") (some_is (c ∷ l) label f)

sound : (word label : List ℕ) → before_colon word ≡ Some label → word ≡ label ++ codes ":"
unfolding before_colon
sound [] label e = absurd (none_some label e)
sound (c ∷ []) label e = which (c == 58) refl e where
  which : (b : Bool) → (c == 58) ≡ b → (if b then Some [] else None) ≡ Some label → c ∷ [] ≡ label ++ codes ":"
  which true is f = ap (λ (k : ℕ). k ∷ []) (last_colon c is) ∙ ap (λ (l : List ℕ). l ++ codes ":") (some_is [] label f)
  which false is f = absurd (none_some label f)
sound (c ∷ d ∷ rest) label e = more c (d ∷ rest) label (λ l is. sound (d ∷ rest) l is) e

pub no_colon : (word : List ℕ) → ((label : List ℕ) → word ≢ label ++ codes ":") → before_colon word ≡ None
no_colon word none = which (before_colon word) refl where
  which : (o : Option (List ℕ)) → before_colon word ≡ o → before_colon word ≡ None
  which None is = is
  which (Some label) is = absurd (none label (sound word label is))

pub same_label : (o : Option (Bor (List ℕ))) (word : List ℕ)
    → MatchOption o ((label : List ℕ) → word ≢ label ++ codes ":") (λ label. word ≡ label.now ++ codes ":")
    → option_map (λ label. label.now) o ≡ before_colon word
same_label None word none = sym (no_colon word none)
same_label (Some label) word is = sym (ap before_colon is ∙ back label.now)

-- the label of a line more
label_here : (slot n : ℕ) (lines : List (List ℕ)) (line : List ℕ) → n < length lines → line ≡ get_or lines n line
    → labels_from slot (drop n lines) ≡ label_of slot (words line) ++ labels_from (slot_after slot (words line)) (drop (n + 1) lines)
unfolding labels_from
label_here slot n lines line inside here =
    at_drop_more (labels_from slot) lines n line inside
    ∙ ap (λ (l : List ℕ). label_of slot (words l) ++ labels_from (slot_after slot (words l)) (drop (n + 1) lines)) (sym here)

pub label_more : (before after all : List Named) (slot next n : ℕ) (lines : List (List ℕ)) (line : List ℕ) (ws vs : List (List ℕ))
    → n < length lines → line ≡ get_or lines n line → ws ≡ words line → vs ≡ words line
    → after ≡ before ++ label_of slot ws → next ≡ slot_after slot vs → before ++ labels_from slot (drop n lines) ≡ all
    → after ++ labels_from next (drop (n + 1) lines) ≡ all
label_more before after all slot next n lines line ws vs inside here same again added stepped h =
    rw (added, stepped, same, again) (append_assoc before (label_of slot (words line)) _
    ∙ (ap (λ (ls : List Named). before ++ ls) (sym (label_here slot n lines line inside here)) ∙ h))

pub all_labels : (labels all : List Named) (slot n : ℕ) (lines : List (List ℕ)) → length lines ≤ n
    → labels ++ labels_from slot (drop n lines) ≡ all → labels ≡ all
unfolding labels_from
all_labels labels all slot n lines past h =
    sym (append-nil labels) ∙ (ap (λ (ls : List Named). labels ++ ls) (sym (at_drop_all (labels_from slot) lines n past)) ∙ h)

-- the plain line of a line more
line_here : (labels : List Named) (slot n : ℕ) (lines : List (List ℕ)) (line : List ℕ) → n < length lines → line ≡ get_or lines n line
    → plain_lines labels slot (drop n lines) ≡ (codes "\n" ++ words_text (plain_words labels slot (words line)))
    ++ plain_lines labels (slot_after slot (words line)) (drop (n + 1) lines)
unfolding plain_lines
line_here labels slot n lines line inside here =
    at_drop_more (plain_lines labels slot) lines n line inside
    ∙ ap (λ (l : List ℕ). codes "\n" ++ (words_text (plain_words labels slot (words l))
    ++ plain_lines labels (slot_after slot (words l)) (drop (n + 1) lines))) (sym here)

pub line_more : (labels : List Named) (before after all : List ℕ) (slot next n : ℕ) (lines : List (List ℕ)) (line : List ℕ) (ws vs : List (List ℕ))
    → n < length lines → line ≡ get_or lines n line → ws ≡ words line → vs ≡ words line
    → after ≡ before ++ (codes "\n" ++ words_text (plain_words labels slot ws)) → next ≡ slot_after slot vs
    → before ++ plain_lines labels slot (drop n lines) ≡ all
    → after ++ plain_lines labels next (drop (n + 1) lines) ≡ all
line_more labels before after all slot next n lines line ws vs inside here same again added stepped h =
    rw (added, stepped, same, again) (append_assoc before (codes "\n" ++ words_text (plain_words labels slot (words line))) _
    ∙ (ap (λ (x : List ℕ). before ++ x) (sym (line_here labels slot n lines line inside here)) ∙ h))

-- a newline and the words that are added are the plain line
pub line_added : (labels : List Named) (before mid after : List ℕ) (slot : ℕ) (own ws : List (List ℕ)) → mid ≡ before ++ codes "\n" → own ≡ own_words labels slot ws
    → after ≡ mid ++ words_text (targeted labels slot own) → after ≡ before ++ (codes "\n" ++ words_text (plain_words labels slot ws))
line_added labels before mid after slot own ws newline is added =
    rw (added, newline, is) (append_assoc before (codes "\n") (words_text (plain_words labels slot ws)))

pub all_plain : (labels : List Named) (text all : List ℕ) (slot n : ℕ) (lines : List (List ℕ)) → length lines ≤ n
    → text ++ plain_lines labels slot (drop n lines) ≡ all → text ≡ all
unfolding plain_lines
all_plain labels text all slot n lines past h =
    sym (append-nil text) ∙ (ap (λ (x : List ℕ). text ++ x) (sym (at_drop_all (plain_lines labels slot) lines n past)) ∙ h)

-- the target of a jump is its last word
pub last_target : (labels : List Named) (slot : ℕ) (others : List (List ℕ)) (last : List ℕ)
    → with_target labels slot (others ++ last ∷ []) ≡ others ++ target_text labels slot last ∷ []
unfolding with_target
last_target labels slot [] last = refl
last_target labels slot (w ∷ []) last = refl
last_target labels slot (w ∷ v ∷ ws) last = ap (λ (xs : List (List ℕ)). w ∷ xs) (last_target labels slot (v ∷ ws) last)

-- the slot of a name, among the labels that are left
name_here : (name : List ℕ) (labels : List Label) (n : ℕ) (d : Label) → n < length labels
    → slot_of name (names_of (drop n labels))
    ≡ (if bytes_eq (get_or labels n d).name.now name then Some (get_or labels n d).slot else slot_of name (names_of (drop (n + 1) labels)))
unfolding slot_of
name_here name labels n d inside = at_drop_more (λ (ls : List Label). slot_of name (names_of ls)) labels n d inside

pub name_found : (name : List ℕ) (labels : List Label) (n : ℕ) (d : Label) (r : Bool) (all : Option ℕ) → n < length labels
    → r ≡ true → r ≡ bytes_eq (get_or labels n d).name.now name
    → slot_of name (names_of (drop n labels)) ≡ all → Some (get_or labels n d).slot ≡ all
name_found name labels n d r all inside found test h =
    sym (name_here name labels n d inside ∙ ap (λ (b : Bool). if b then Some (get_or labels n d).slot else slot_of name (names_of (drop (n + 1) labels)))
    (sym test ∙ found)) ∙ h

pub name_passed : (name : List ℕ) (labels : List Label) (n : ℕ) (d : Label) (r : Bool) (all : Option ℕ) → n < length labels
    → r ≡ false → r ≡ bytes_eq (get_or labels n d).name.now name
    → slot_of name (names_of (drop n labels)) ≡ all → slot_of name (names_of (drop (n + 1) labels)) ≡ all
name_passed name labels n d r all inside other test h =
    sym (name_here name labels n d inside ∙ ap (λ (b : Bool). if b then Some (get_or labels n d).slot else slot_of name (names_of (drop (n + 1) labels)))
    (sym test ∙ other)) ∙ h

pub no_name_left : (name : List ℕ) (labels : List Label) (n : ℕ) (all : Option ℕ) → length labels ≤ n
    → slot_of name (names_of (drop n labels)) ≡ all → None ≡ all
unfolding slot_of
no_name_left name labels n all past h = sym (at_drop_all (λ (ls : List Label). slot_of name (names_of ls)) labels n past) ∙ h

-- the words of a jump
several : (xs ys : List (List ℕ)) → words_text (xs ++ ys) ≡ words_text xs ++ words_text ys
several [] ys = refl
several (x ∷ xs) ys = ap (λ (t : List ℕ). (x ++ codes " ") ++ t) (several xs ys) ∙ sym (append_assoc (x ++ codes " ") (words_text xs) (words_text ys))

seen_last : (others : List (Bor (List ℕ))) (last : Bor (List ℕ)) → map (λ w. w.now) (others ++ last ∷ []) ≡ map (λ w. w.now) others ++ last.now ∷ []
seen_last [] last = refl
seen_last (w ∷ others) last = ap (λ (ws : List (List ℕ)). w.now ∷ ws) (seen_last others last)

pub jump_text : (labels : List Named) (slot : ℕ) (ws others : List (Bor (List ℕ))) (last : Bor (List ℕ)) (before mid after : List ℕ)
    → is_jump (map (λ w. w.now) ws) ≡ true → ws ≡ others ++ last ∷ []
    → mid ≡ before ++ words_text (map (λ w. w.now) others) → after ≡ mid ++ (target_text labels slot last.now ++ codes " ")
    → after ≡ before ++ words_text (targeted labels slot (map (λ w. w.now) ws))
jump_text labels slot ws others last before mid after jump parts one two =
    two
    ∙ (ap (λ (t : List ℕ). t ++ (target_text labels slot last.now ++ codes " ")) one
    ∙ (append_assoc before (words_text seen) (target_text labels slot last.now ++ codes " ")
    ∙ ap (λ (t : List ℕ). before ++ t) (sym whole)))
  where
    seen : List (List ℕ)
    seen = map (λ w. w.now) others

    all : map (λ w. w.now) ws ≡ seen ++ last.now ∷ []
    all = ap (λ (vs : List (Bor (List ℕ))). map (λ w. w.now) vs) parts ∙ seen_last others last

    whole : words_text (targeted labels slot (map (λ w. w.now) ws)) ≡ words_text seen ++ (target_text labels slot last.now ++ codes " ")
    whole =
        ap (λ (b : Bool). words_text (if b then with_target labels slot (map (λ w. w.now) ws) else map (λ w. w.now) ws)) jump
        ∙ (ap (λ (vs : List (List ℕ)). words_text (with_target labels slot vs)) all
        ∙ (ap words_text (last_target labels slot seen last.now)
        ∙ (several seen (target_text labels slot last.now ∷ [])
        ∙ ap (λ (t : List ℕ). words_text seen ++ t) (append-nil (target_text labels slot last.now ++ codes " ")))))

-- the first labels
pub some_first : (n : ℕ) (labels : List Label) → names_of (take n labels) ≡ take n (names_of labels)
some_first n labels = sym (take-map named_by_label n labels)

pub all_first : (n : ℕ) (labels : List Label) → length labels ≤ n → names_of labels ≡ take n (names_of labels)
all_first n labels few = sym (take_all n (names_of labels) (omega (arith, few, length-map labels named_by_label)))

-- the line that a search came to is the one of its number
pub line_there : (lines : List (List ℕ)) (n number : ℕ) (line : List ℕ) → n < length lines → line ≡ get_or lines n line → number ≡ n
    → line ≡ slice_index_or lines number []
line_there lines n number line inside here same = here ∙ (get_or_default lines n line [] inside ∙ ap (λ (k : ℕ). get_or lines k []) (sym same))

pub line_past : (lines : List (List ℕ)) (number : ℕ) → length lines ≤ number → [] ≡ slice_index_or lines number []
line_past lines number past = sym (get_or_past lines number [] past)
