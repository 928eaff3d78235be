-- The texts of arcs, one after another.
use Rattle.std.proofs.Common.{ℕ, ◌≡◌, ◌<◌, ◌≤◌, ◌+◌, ◌++◌, ◌∷◌, [], List, length, get_or, take, arith, ap, ◌∙◌, append_assoc, append-nil}
use Rattle.std.specs.List.{flat_map, zip}
use Rattle.std.proofs.lemmas.Grind.{flat_map-append}
use Rattle.std.proofs.lemmas.List.{take_all, take_more}
use Rattle.std.proofs.lemmas.Slice.Zip.{get_or-zip, length-zip}
use Rattle.pair_structure.specs.declared.side.LocalArc.{LocalArc}
use Rattle.skeleton_extract.specs.declared.command.Command.{Command}
use Rattle.pair_structure.specs.Lists.{list_at}
use Rattle.skeleton_extract.specs.SkeletonText.{Names, arc_line, arc_text, arcs_text, command_line}

-- one more arc with its commands
arcs_more : (own other : Names) (arcs : List LocalArc) (lists : List (List Command)) (n : ℕ) (d : LocalArc) → n < length arcs → length lists ≡ length arcs
    → flat_map (arc_text own other) (take (n + 1) (zip arcs lists)) ≡ flat_map (arc_text own other) (take n (zip arcs lists)) ++ (arc_line own (get_or arcs n d) ++ flat_map (command_line other) (list_at lists n))
arcs_more own other arcs lists n d lt same =
    let within : n < length (zip arcs lists) = omega (arith, length-zip arcs lists) in
    let pair : get_or (zip arcs lists) n (d, []) ≡ (get_or arcs n d, list_at lists n) = get_or-zip arcs lists n (d, []) lt (omega (arith, same)) in
    ap (flat_map (arc_text own other)) (take_more (zip arcs lists) n (d, []) within)
    ∙ flat_map-append (arc_text own other) (take n (zip arcs lists)) (get_or (zip arcs lists) n (d, []) ∷ [])
    ∙ ap (λ text. flat_map (arc_text own other) (take n (zip arcs lists)) ++ text) (append-nil (arc_text own other (get_or (zip arcs lists) n (d, []))) ∙ ap (arc_text own other) pair)

joined : (start so arc commands one two text : List ℕ) → one ≡ (start ++ so) ++ arc → two ≡ one ++ commands → text ≡ so ++ (arc ++ commands) → two ≡ start ++ text
joined start so arc commands one two text p q r = rw (q, p, r) (simp append_assoc)

-- what is written of an arc and its commands, after the arcs before it
pub written_more : (own other : Names) (arcs : List LocalArc) (lists : List (List Command)) (n : ℕ) (d : LocalArc) (start before one two : List ℕ) → n < length arcs → length lists ≡ length arcs
    → before ≡ start ++ flat_map (arc_text own other) (take n (zip arcs lists)) → one ≡ before ++ arc_line own (get_or arcs n d) → two ≡ one ++ flat_map (command_line other) (list_at lists n)
    → two ≡ start ++ flat_map (arc_text own other) (take (n + 1) (zip arcs lists))
written_more own other arcs lists n d start before one two lt same is p q = joined start _ _ _ one two _ (rw is at p) q (arcs_more own other arcs lists n d lt same)

-- past the last arc the text is whole
pub written_all : (own other : Names) (arcs : List LocalArc) (lists : List (List Command)) (n : ℕ) (start text : List ℕ) → length arcs ≤ n → text ≡ start ++ flat_map (arc_text own other) (take n (zip arcs lists)) → text ≡ start ++ arcs_text own other arcs lists
written_all own other arcs lists n start text le is = rw (← take_all n (zip arcs lists) (omega (arith, length-zip arcs lists))) is
