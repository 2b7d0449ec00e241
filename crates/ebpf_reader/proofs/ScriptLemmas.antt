-- The programs of a script, by name.
use Rattle.std.proofs.Common.{◌≡◌, ℕ, zero, suc, ◌+◌, Bool, true, false, cond, not, List, [], ◌∷◌, ◌++◌, length, map, Option, Some, None, Result}
use Rattle.std.proofs.Common.{Ok, Err, OnOk, OnErr, is_some, option_map, unwrap_or, position, slice_get, String, string_bytes, refl, sym, ◌∙◌, ap}
use Rattle.std.proofs.Common.{arith}
use Rattle.std.proofs.lemmas.Bool.{and_parts}
use Rattle.std.proofs.lemmas.List.{map-append}
use Rattle.std.proofs.lemmas.List.Folds.{list_all-append}
use Rattle.std.specs.declared.alloc.Global.{Global}
use Rattle.std.specs.List.{list_all, prefix_len, IsDistinct}
use Rattle.std.specs.Map.{keys_of, lookup}
use Rattle.std.specs.Str.{bytes_eq}
use Rattle.std.specs.String.{string_eq, string_eq_equiv}
use Rattle.indexmap.specs.IndexMap.{IndexMap, get, insert_entry}
use Rattle.indexmap.proofs.MapLemmas.{some_index, index-first}
use Rattle.indexmap.proofs.RemoveLemmas.{own_first}
use Rattle.indexmap.proofs.CallerLemmas.{insert_entry-new}
use Rattle.ebpf_reader.specs.declared.script.ProgramText.{ProgramText}
use Rattle.ebpf_reader.specs.Names.{is_name}
use Rattle.ebpf_reader.specs.ReadScripts.{named}
use Rattle.ebpf_reader.specs.ParsedScript.{Named, number_of, declared_by}

prefix_len-map : {X Y : Type 0} (p : Y → Bool) (f : X → Y) (xs : List X) → prefix_len p (map f xs) ≡ prefix_len (λ x. p (f x)) xs
prefix_len-map p f [] = refl
prefix_len-map p f (x ∷ xs) = ap (λ (n : ℕ). cond (p (f x)) (1 + n) 0) (prefix_len-map p f xs)

length-mapped : {X Y : Type 0} (f : X → Y) (xs : List X) → length (map f xs) ≡ length xs
length-mapped f [] = refl
length-mapped f (x ∷ xs) = omega (arith, length-mapped f xs)

position-map : {X Y : Type 0} (p : Y → Bool) (f : X → Y) (xs : List X) → position p (map f xs) ≡ position (λ x. p (f x)) xs
position-map p f xs = rw (prefix_len-map (λ y. not (p y)) f xs, length-mapped f xs) refl

-- the number of a name is the index of its key
pub number_of-entries : (es : List (String Global × ProgramText)) (name : List ℕ)
    → number_of (map named es) name ≡ position (λ k. bytes_eq name (string_bytes k)) (keys_of es)
unfolding number_of
number_of-entries es name = position-map (λ p. bytes_eq name p.name) named es ∙ sym (position-map (λ k. bytes_eq name (string_bytes k)) (λ e. e.0) es)

-- a name has a number where its key is there
is_defined-entries : (es : List (String Global × ProgramText)) (name : List ℕ)
    → is_some (number_of (map named es) name) ≡ is_some (lookup (λ k. bytes_eq name (string_bytes k)) es)
is_defined-entries es name = ap is_some (number_of-entries es name) ∙ some_index (λ k. bytes_eq name (string_bytes k)) es

-- what the map's test for a name says of the name
pub is_defined-test : (es : List (String Global × ProgramText)) (asked name : List ℕ) (test : Bool) → asked ≡ name
    → test ≡ is_some (lookup (λ k. bytes_eq asked (string_bytes k)) es) → is_some (number_of (map named es) name) ≡ test
is_defined-test es asked name test same found =
    sym (found ∙ (ap (λ (q : List ℕ). is_some (lookup (λ k. bytes_eq q (string_bytes k)) es)) same ∙ sym (is_defined-entries es name)))

-- what the map's index of a name says of the name
pub number_of-index : (es : List (String Global × ProgramText)) (asked name : List ℕ) (index : Option ℕ) → asked ≡ name
    → index ≡ position (λ k. bytes_eq asked (string_bytes k)) (keys_of es) → number_of (map named es) name ≡ index
number_of-index es asked name index same found =
    sym (found ∙ (ap (λ (q : List ℕ). position (λ k. bytes_eq q (string_bytes k)) (keys_of es)) same ∙ sym (number_of-entries es name)))

found_or : {X Y Z : Type 0} (f : X → Z) (g : Y → Z) (b : Bool) (x : X) (y : Y) (u : Option X) (v : Option Y) → f x ≡ g y
    → option_map f u ≡ option_map g v → option_map f (cond b (Some x) u) ≡ option_map g (cond b (Some y) v)
found_or f g true x y u v same rest = ap Some same
found_or f g false x y u v same rest = rest

-- the length that a name declares is that of its key's program
declared_by-entries : (es : List (String Global × ProgramText)) (name : List ℕ)
    → declared_by (map named es) name ≡ option_map (λ (t : ProgramText). t.decl.context) (lookup (λ k. bytes_eq name (string_bytes k)) es)
unfolding declared_by
declared_by-entries [] name = refl
declared_by-entries (e ∷ es) name = found_or (λ (p : Named). p.context) (λ (t : ProgramText). t.decl.context) (bytes_eq name (string_bytes e.0)) (named e) e.1 _ _ refl (declared_by-entries es name)

-- what the map's program of a name says of the name
pub declared_by-found : (es : List (String Global × ProgramText)) (asked name : List ℕ) (text : ProgramText) → asked ≡ name
    → Some text ≡ lookup (λ k. bytes_eq asked (string_bytes k)) es → declared_by (map named es) name ≡ Some text.decl.context
declared_by-found es asked name text same found =
    declared_by-entries es name ∙ (ap (λ (q : List ℕ). option_map (λ (t : ProgramText). t.decl.context) (lookup (λ k. bytes_eq q (string_bytes k)) es)) (sym same) ∙ ap (option_map (λ (t : ProgramText). t.decl.context)) (sym found))

none_where : {X : Type 0} (o : Option X) → is_some o ≡ false → o ≡ None
none_where None h = refl
none_where (Some x) h = cc

-- a name that is not there goes last
entries-put : {S : Type 0} (m : IndexMap (String Global) ProgramText S) (key : String Global) (text : ProgramText) (asked : List ℕ) (new : List (String Global × ProgramText))
    → string_bytes key ≡ asked → false ≡ is_some (lookup (λ k. bytes_eq asked (string_bytes k)) m.entries)
    → new ≡ insert_entry string_eq m.entries key text → new ≡ m.entries ++ (key, text) ∷ []
entries-put m key text asked new same absent put =
    let none : get string_eq m key ≡ None =
    none_where _ (ap (λ (q : List ℕ). is_some (lookup (λ k. bytes_eq q (string_bytes k)) m.entries)) same ∙ sym absent) in
    put ∙ insert_entry-new string_eq m key text none

pub entries-more : {S : Type 0} (m : IndexMap (String Global) ProgramText S) (key : String Global) (text : ProgramText) (asked : List ℕ) (new : List (String Global × ProgramText))
    → string_bytes key ≡ asked → false ≡ is_some (lookup (λ k. bytes_eq asked (string_bytes k)) m.entries)
    → new ≡ insert_entry string_eq m.entries key text → map named new ≡ map named m.entries ++ named (key, text) ∷ []
entries-more m key text asked new same absent put =
    ap (λ (es : List (String Global × ProgramText)). map named es) (entries-put m key text asked new same absent put) ∙ map-append named m.entries ((key, text) ∷ [])

-- ---- all names are allowed

pub named-more : {S X E : Type 0} (r : Result X E) (m : IndexMap (String Global) ProgramText S) (key : String Global) (text : ProgramText) (asked : List ℕ) (new : List (String Global × ProgramText))
    → string_bytes key ≡ asked → is_name asked ≡ true → false ≡ is_some (lookup (λ k. bytes_eq asked (string_bytes k)) m.entries)
    → OnOk r (new ≡ insert_entry string_eq m.entries key text) → OnErr r (new ≡ m.entries)
    → list_all (λ p. is_name (string_bytes p.0)) m.entries ≡ true → list_all (λ p. is_name (string_bytes p.0)) new ≡ true
named-more (Ok x) m key text asked new same allowed absent put kept before =
    let last : is_name (string_bytes key) ≡ true = ap is_name same ∙ allowed in
    ap (list_all (λ (p : String Global × ProgramText). is_name (string_bytes p.0))) (entries-put m key text asked new same absent put)
    ∙ (list_all-append (λ (p : String Global × ProgramText). is_name (string_bytes p.0)) m.entries ((key, text) ∷ []) ∙ rw (before, last) refl)
named-more (Err e) m key text asked new same allowed absent put kept before =
    ap (list_all (λ (p : String Global × ProgramText). is_name (string_bytes p.0))) kept ∙ before

pub named-there : (es : List (String Global × ProgramText)) (index : ℕ) (key : String Global) (text : ProgramText) (name : List ℕ)
    → list_all (λ p. is_name (string_bytes p.0)) es ≡ true → slice_get es index ≡ Some (key, text) → string_bytes key ≡ name → is_name name ≡ true
named-there [] index key text name all there same = absurd cc
named-there ((k, t) ∷ es) zero key text name all there same =
    let parts = and_parts (is_name (string_bytes k)) (list_all (λ (p : String Global × ProgramText). is_name (string_bytes p.0)) es) all in
    let first : string_bytes k ≡ string_bytes key = ap (λ (o : Option (String Global × ProgramText)). string_bytes (unwrap_or o (k, t)).0) there in
    sym (ap is_name (first ∙ same)) ∙ parts.0
named-there ((k, t) ∷ es) (suc index) key text name all there same =
    let parts = and_parts (is_name (string_bytes k)) (list_all (λ (p : String Global × ProgramText). is_name (string_bytes p.0)) es) all in
    named-there es index key text name parts.1 there same

-- ---- an entry whose key is the name

pub number_of-own : (es : List (String Global × ProgramText)) (index : ℕ) (key : String Global) (text : ProgramText) (name : List ℕ)
    → IsDistinct string_eq (keys_of es) → slice_get es index ≡ Some (key, text) → string_bytes key ≡ name → number_of (map named es) name ≡ Some index
number_of-own es index key text name unique there same =
    number_of-index es (string_bytes key) name (Some index) same
    (sym (index-first (string_eq key) es index (own_first string_eq string_eq_equiv es index key text unique there)))

pub declared_by-own : (es : List (String Global × ProgramText)) (key : String Global) (text : ProgramText) (name : List ℕ)
    → lookup (string_eq key) es ≡ Some text → string_bytes key ≡ name → declared_by (map named es) name ≡ Some text.decl.context
declared_by-own es key text name found same = declared_by-found es (string_bytes key) name text same (sym found)

-- ---- what is said of a name is said of the same name

pub number_of-said : (programs : List Named) (asked name : List ℕ) (index : Option ℕ) → asked ≡ name → index ≡ number_of programs asked
    → number_of programs name ≡ index
number_of-said programs asked name index same said = sym (said ∙ ap (number_of programs) same)

pub declared_by-said : (programs : List Named) (asked name : List ℕ) (context : ℕ) → asked ≡ name → declared_by programs asked ≡ Some context
    → declared_by programs name ≡ Some context
declared_by-said programs asked name context same said = ap (declared_by programs) (sym same) ∙ said
