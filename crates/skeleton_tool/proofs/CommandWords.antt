-- The words are a command exactly where they are its own words, and none of them begins with a dash.
use Rattle.std.proofs.Common.{ℕ, ◌≡◌, ◌<◌, ◌^◌, ◌⊎◌, ◌∙◌, inl, inr, Bool, true, false, Option, Some, None, List, [], ◌∷◌, All, arith, codes, decimal, sym, ap, refl, subst}
use Rattle.std.specs.Prelude.{◌||◌, ◌↔◌, ◌≤◌, String, string_bytes, get_or, length, if◌then◌else◌}
use Rattle.std.specs.declared.alloc.Global.{Global}
use Rattle.std.specs.Str.{bytes_eq}
use Rattle.std.proofs.lemmas.Bool.{or_parts}
use Rattle.std.proofs.lemmas.List.Elements.{All-cons}
use Rattle.std.proofs.lemmas.Slice.Eq.{bytes_eq-Decides}
use Rattle.skeleton_tool.specs.Command.{AsksRun, Command, IsCommand, IsNarrow, NamesCommands, NoDash, synth, prove, skel, check, replay, run, migrate, begins_with_dash, command_by, command_of, command_on, command_over, command_with, numbers_of, run_with, with_numbers, words_for, words_of}
use Rattle.skeleton_tool.specs.Number.{number_of}
use Rattle.skeleton_tool.specs.inside.View.{IsPlain}
use Rattle.skeleton_tool.proofs.Numbers.{decimal_plain, number_of-decimal, number_of_some}

chosen : (b : Bool) (x command : Command) (o : Option Command) → (if b then Some x else o) ≡ Some command → ((b ≡ true) × (x ≡ command)) ⊎ ((b ≡ false) × (o ≡ Some command))
chosen true x command o e = inl (refl, cc)
chosen false x command o e = inr (refl, e)

cond_none_some : (b : Bool) (command : Command) (o : Option Command) → (if b then None else o) ≡ Some command → (b ≡ false) × (o ≡ Some command)
cond_none_some true command o e = absurd (let n : None ≡ Some command = e in cc)
cond_none_some false command o e = (refl, e)

cond_some : (b : Bool) (command : Command) (o : Option Command) → (if b then o else None) ≡ Some command → (b ≡ true) × (o ≡ Some command)
cond_some true command o e = (refl, e)
cond_some false command o e = absurd (let n : None ≡ Some command = e in cc)

none_named : (command : Command) → None ≡ Some command → ⊥
none_named command e = cc

no_words : All NoDash []
no_words i d lt = absurd (omega (arith, lt))

no_numbers : All IsNarrow []
no_numbers i d lt = absurd (omega (arith, lt))

-- a name of the table and files without dashes are a command's words
is_command : (word name : List ℕ) (files : List (List ℕ)) (x command : Command) → bytes_eq name word ≡ true → NoDash word → All NoDash files → words_for x ≡ word ∷ files → All IsNarrow (numbers_of x) → x ≡ command → IsCommand (name ∷ files) command
is_command word name files x command same plain all spelled narrow is =
    let name_is : name ≡ word = (bytes_eq-Decides name word).0 same in
    subst (IsCommand (name ∷ files)) is (record {
      words_are = ap (λ n. n ∷ files) name_is ∙ sym spelled;
      no_dash = All-cons NoDash name files (subst NoDash (sym name_is) plain) all;
      narrow = narrow;
    })

two_files : (spec sol : List ℕ) → (begins_with_dash spec || begins_with_dash sol) ≡ false → All NoDash (spec ∷ sol ∷ [])
two_files spec sol e = let parts = or_parts (begins_with_dash spec) (begins_with_dash sol) e in All-cons NoDash spec (sol ∷ []) parts.0 (All-cons NoDash sol [] parts.1 no_words)

three_files : (spec sol journal : List ℕ) → (begins_with_dash spec || begins_with_dash sol || begins_with_dash journal) ≡ false → All NoDash (spec ∷ sol ∷ journal ∷ [])
three_files spec sol journal e =
    let parts = or_parts (begins_with_dash spec || begins_with_dash sol) (begins_with_dash journal) e in
    let first = or_parts (begins_with_dash spec) (begins_with_dash sol) parts.0 in
    All-cons NoDash spec (sol ∷ journal ∷ []) first.0 (All-cons NoDash sol (journal ∷ []) first.1 (All-cons NoDash journal [] parts.1 no_words))

named_one : (name spec : List ℕ) (command : Command) → command_with name spec ≡ Some command → IsCommand (name ∷ spec ∷ []) command
named_one name spec command e =
    let (plain, o) = cond_none_some (begins_with_dash spec) command (if bytes_eq name (codes "synth") then Some (synth spec) else if bytes_eq name (codes "migrate") then Some (migrate spec) else None) e in
    let file = All-cons NoDash spec [] plain no_words in
    elim (chosen (bytes_eq name (codes "synth")) (synth spec) command (if bytes_eq name (codes "migrate") then Some (migrate spec) else None) o) [
      | inl t ↦ is_command (codes "synth") name (spec ∷ []) (synth spec) command t.0 refl file refl no_numbers t.1
      | inr u ↦ elim (chosen (bytes_eq name (codes "migrate")) (migrate spec) command None u.1) [
        | inl t ↦ is_command (codes "migrate") name (spec ∷ []) (migrate spec) command t.0 refl file refl no_numbers t.1
        | inr t ↦ absurd (none_named command t.1)
      ]
    ]

named_two : (name spec sol : List ℕ) (command : Command) → command_on name spec sol ≡ Some command → IsCommand (name ∷ spec ∷ sol ∷ []) command
named_two name spec sol command e =
    let (plain, o) = cond_none_some (begins_with_dash spec || begins_with_dash sol) command (if bytes_eq name (codes "prove") then Some (prove spec sol) else if bytes_eq name (codes "skel") then Some (skel spec sol) else None) e in
    let files = two_files spec sol plain in
    elim (chosen (bytes_eq name (codes "prove")) (prove spec sol) command (if bytes_eq name (codes "skel") then Some (skel spec sol) else None) o) [
      | inl t ↦ is_command (codes "prove") name (spec ∷ sol ∷ []) (prove spec sol) command t.0 refl files refl no_numbers t.1
      | inr u ↦ elim (chosen (bytes_eq name (codes "skel")) (skel spec sol) command None u.1) [
        | inl t ↦ is_command (codes "skel") name (spec ∷ sol ∷ []) (skel spec sol) command t.0 refl files refl no_numbers t.1
        | inr t ↦ absurd (none_named command t.1)
      ]
    ]

named_three : (name spec sol file : List ℕ) (command : Command) → command_over name spec sol file ≡ Some command → IsCommand (name ∷ spec ∷ sol ∷ file ∷ []) command
named_three name spec sol file command e =
    let (plain, o) = cond_none_some (begins_with_dash spec || begins_with_dash sol || begins_with_dash file) command (if bytes_eq name (codes "check") then Some (check spec sol file) else if bytes_eq name (codes "replay") then Some (replay spec sol file) else None) e in
    let files = three_files spec sol file plain in
    elim (chosen (bytes_eq name (codes "check")) (check spec sol file) command (if bytes_eq name (codes "replay") then Some (replay spec sol file) else None) o) [
      | inl t ↦ is_command (codes "check") name (spec ∷ sol ∷ file ∷ []) (check spec sol file) command t.0 refl files refl no_numbers t.1
      | inr u ↦ elim (chosen (bytes_eq name (codes "replay")) (replay spec sol file) command None u.1) [
        | inl t ↦ is_command (codes "replay") name (spec ∷ sol ∷ file ∷ []) (replay spec sol file) command t.0 refl files refl no_numbers t.1
        | inr t ↦ absurd (none_named command t.1)
      ]
    ]

-- the command of three numbers has the numbers of its words
numbers_some : (make : ℕ → ℕ → ℕ → Command) (a b c : Option ℕ) (command : Command) → with_numbers make a b c ≡ Some command → (x : ℕ) × (y : ℕ) × (z : ℕ) × (a ≡ Some x) × (b ≡ Some y) × (c ≡ Some z) × (make x y z ≡ command)
numbers_some make None b c command e = absurd (none_named command e)
numbers_some make (Some a) None c command e = absurd (none_named command e)
numbers_some make (Some a) (Some b) None command e = absurd (none_named command e)
numbers_some make (Some a) (Some b) (Some c) command e = (a, b, c, refl, refl, refl, some_command (make a b c) command e)
  where
    some_command : (x y : Command) → Some x ≡ Some y → x ≡ y
    some_command x y e = cc

run_command : (name spec sol a b c : List ℕ) (x y z : ℕ) → name ≡ codes "run" → NoDash spec → NoDash sol → a ≡ decimal x → b ≡ decimal y → c ≡ decimal z → x < 2 ^ 64 → y < 2 ^ 64 → z < 2 ^ 64 → IsCommand (name ∷ spec ∷ sol ∷ a ∷ b ∷ c ∷ []) (run spec sol x y z)
run_command name spec sol a b c x y z name_is spec_plain sol_plain a_is b_is c_is x_small y_small z_small = record {
  words_are = rw (name_is, a_is, b_is, c_is) refl;
  no_dash = All-cons NoDash name (spec ∷ sol ∷ a ∷ b ∷ c ∷ []) (rw name_is refl)
      (All-cons NoDash spec (sol ∷ a ∷ b ∷ c ∷ []) spec_plain
      (All-cons NoDash sol (a ∷ b ∷ c ∷ []) sol_plain
      (All-cons NoDash a (b ∷ c ∷ []) (rw a_is (decimal_plain x x_small)) (All-cons NoDash b (c ∷ []) (rw b_is (decimal_plain y y_small)) (All-cons NoDash c [] (rw c_is (decimal_plain z z_small)) no_words)))));
  narrow = All-cons IsNarrow x (y ∷ z ∷ []) x_small (All-cons IsNarrow y (z ∷ []) y_small (All-cons IsNarrow z [] z_small no_numbers));
}

named_five : (name spec sol callers room seed : List ℕ) (command : Command) → command_by name spec sol callers room seed ≡ Some command → IsCommand (name ∷ spec ∷ sol ∷ callers ∷ room ∷ seed ∷ []) command
named_five name spec sol callers room seed command e =
    let (plain, o) = cond_none_some (begins_with_dash spec || begins_with_dash sol) command (if bytes_eq name (codes "run") then run_with spec sol callers room seed else None) e in
    let files = or_parts (begins_with_dash spec) (begins_with_dash sol) plain in
    let (same, made) = cond_some (bytes_eq name (codes "run")) command (run_with spec sol callers room seed) o in
    let (x, y, z, a, b, c, is) = numbers_some (run spec sol) (number_of callers) (number_of room) (number_of seed) command made in
    let one = number_of_some callers x a in
    let two = number_of_some room y b in
    let three = number_of_some seed z c in
    subst (IsCommand (name ∷ spec ∷ sol ∷ callers ∷ room ∷ seed ∷ [])) is (run_command name spec sol callers room seed x y z ((bytes_eq-Decides name (codes "run")).0 same) files.0 files.1 one.0 two.0 three.0 one.1 two.1 three.1)

named : (words : List (List ℕ)) (command : Command) → command_of words ≡ Some command → IsCommand words command
named [] command e = absurd (none_named command e)
named (name ∷ []) command e = absurd (none_named command e)
named (name ∷ spec ∷ []) command e = named_one name spec command e
named (name ∷ spec ∷ sol ∷ []) command e = named_two name spec sol command e
named (name ∷ spec ∷ sol ∷ file ∷ []) command e = named_three name spec sol file command e
named (name ∷ spec ∷ sol ∷ file ∷ more ∷ []) command e = absurd (none_named command e)
named (name ∷ spec ∷ sol ∷ callers ∷ room ∷ seed ∷ []) command e = named_five name spec sol callers room seed command e
named (name ∷ spec ∷ sol ∷ callers ∷ room ∷ seed ∷ more ∷ words) command e = absurd (none_named command e)

spelled_so : (command : Command) → All NoDash (words_for command) → All IsNarrow (numbers_of command) → command_of (words_for command) ≡ Some command
spelled_so (synth spec) all narrow = let one : begins_with_dash spec ≡ false = all 1 spec (omega arith) in rw one refl
spelled_so (prove spec sol) all narrow =
    let one : begins_with_dash spec ≡ false = all 1 spec (omega arith) in
    let two : begins_with_dash sol ≡ false = all 2 spec (omega arith) in
    rw (one, two) refl
spelled_so (skel spec sol) all narrow =
    let one : begins_with_dash spec ≡ false = all 1 spec (omega arith) in
    let two : begins_with_dash sol ≡ false = all 2 spec (omega arith) in
    rw (one, two) refl
spelled_so (check spec sol certificate) all narrow =
    let one : begins_with_dash spec ≡ false = all 1 spec (omega arith) in
    let two : begins_with_dash sol ≡ false = all 2 spec (omega arith) in
    let three : begins_with_dash certificate ≡ false = all 3 spec (omega arith) in
    rw (one, two, three) refl
spelled_so (replay spec sol journal) all narrow =
    let one : begins_with_dash spec ≡ false = all 1 spec (omega arith) in
    let two : begins_with_dash sol ≡ false = all 2 spec (omega arith) in
    let three : begins_with_dash journal ≡ false = all 3 spec (omega arith) in
    rw (one, two, three) refl
spelled_so (run spec sol callers room seed) all narrow =
    let one : begins_with_dash spec ≡ false = all 1 spec (omega arith) in
    let two : begins_with_dash sol ≡ false = all 2 spec (omega arith) in
    let a = number_of-decimal callers (narrow 0 0 (omega arith)) in
    let b = number_of-decimal room (narrow 1 0 (omega arith)) in
    let c = number_of-decimal seed (narrow 2 0 (omega arith)) in
    rw (one, two, a, b, c) refl
spelled_so (migrate spec) all narrow = let one : begins_with_dash spec ≡ false = all 1 spec (omega arith) in rw one refl

spelled : (words : List (List ℕ)) (command : Command) → IsCommand words command → command_of words ≡ Some command
spelled words command is = rw is.words_are (spelled_so command (rw is.words_are at is.no_dash) is.narrow)

pub names_commands : NamesCommands
names_commands words command = (named words command, spelled words command)

-- the words of a run begin with `run`
pub asks_run : (words : List (List ℕ)) (spec sol : List ℕ) (callers room seed : ℕ) → command_of words ≡ Some (run spec sol callers room seed) → AsksRun words
asks_run words spec sol callers room seed e = let is = (named words (run spec sol callers room seed) e).words_are in rw is refl

-- words that do not begin so are no run
pub plain_words : (words : List (List ℕ)) (o : Option Command) → (AsksRun words → ⊥) → command_of words ≡ o → IsPlain o
plain_words words None other e = tt
plain_words words (Some (synth spec)) other e = tt
plain_words words (Some (prove spec sol)) other e = tt
plain_words words (Some (skel spec sol)) other e = tt
plain_words words (Some (check spec sol file)) other e = tt
plain_words words (Some (replay spec sol file)) other e = tt
plain_words words (Some (run spec sol callers room seed)) other e = other (asks_run words spec sol callers room seed e)
plain_words words (Some (migrate spec)) other e = tt

-- the first of some words tells whether they ask for a run
pub first_asks : (words : List (String Global)) (name : String Global) → 1 ≤ length words → name ≡ get_or words 0 name → (string_bytes name ≡ codes "run") ↔ AsksRun (words_of words)
first_asks [] name some is = absurd (omega (arith, some))
first_asks (word ∷ words) name some is = subst (λ (n : String Global). (string_bytes n ≡ codes "run") ↔ (string_bytes word ≡ codes "run")) (sym is) (λ h. h, λ h. h)
