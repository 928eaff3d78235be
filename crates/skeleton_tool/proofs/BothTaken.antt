-- Where one of two or three files is not read, the call stops so.
use Rattle.std.proofs.Common.{ℕ, ◌<◌, inl, inr, List, length, subst}
use Rattle.pair_structure.specs.Structure.{Structure}
use Rattle.conjunctive_compose.specs.System.{SystemParts}
use Rattle.ctl_text.specs.Value.{SpecParts}
use Rattle.skeleton_tool.specs.declared.status.Status.{Status}
use Rattle.skeleton_tool.specs.declared.stop.Stop.{Stop}
use Rattle.skeleton_tool.specs.declared.stop.Stop.TheVariants.{Answered, Memory}
use Rattle.skeleton_tool.specs.Answer.{AnswersBoth, NotRead, spec_grammar, solution_grammar}
use Rattle.skeleton_tool.specs.Reading.{Grammar, IsRead, IsUnread, ReadsAndAnswers}
use Rattle.skeleton_tool.specs.Taking.{Files, KeepsShelf, ShelfSeen, StopsAs, shelf_seen}
use Rattle.skeleton_tool.specs.Third.{AnswersThird, AnswersValue, IsSystemOf}
use Rattle.skeleton_tool.proofs.Stopped.{stops_behind, stops_since}

-- where no solution is taken behind a specification, one of the two is not read
pub stops_at_solution : {A : Type 0} (files : A → Files) (faults longs : A → ℕ) (may_ask : A → List ℕ → ℕ → Type 0) (old mid new : A) (v : SpecParts) (spec sol text : List ℕ) (stop : Stop)
    → IsRead spec_grammar (files old) spec v → KeepsShelf files faults longs may_ask old mid → StopsAs (IsUnread (solution_grammar v) (shelf_seen files faults longs mid new) sol) text stop
    → StopsAs (NotRead (shelf_seen files faults longs old new) spec sol) text stop
stops_at_solution files faults longs may_ask old mid new v spec sol text stop read kept h =
    stops_behind spec_grammar (λ v. IsUnread (solution_grammar v) (shelf_seen files faults longs old new) sol) (shelf_seen files faults longs old new) spec v text stop read (stops_since (solution_grammar v) files faults longs may_ask old mid new sol text stop kept h)

not_read : (answers : SpecParts → List Structure → Status → List ℕ → Type 0) (shelf : ShelfSeen) (spec sol : List ℕ) (status : Status) (text : List ℕ) → NotRead shelf spec sol status text → AnswersBoth answers shelf spec sol status text
not_read answers shelf spec sol status text (inl h) = inl h
not_read answers shelf spec sol status text (inr (v, read, h)) = inr (v, read, inl h)

-- where one of the two is not read, that is the answer
pub stops_both : (answers : SpecParts → List Structure → Status → List ℕ → Type 0) (shelf : ShelfSeen) (spec sol text : List ℕ) (stop : Stop) → StopsAs (NotRead shelf spec sol) text stop → StopsAs (AnswersBoth answers shelf spec sol) text stop
stops_both answers shelf spec sol text Memory h = tt
stops_both answers shelf spec sol text (Answered status) h = (not_read answers shelf spec sol status text h.0, h.1)

module _ {V : Type 0} (grammar : SpecParts → SystemParts → Grammar V) (answers : AnswersValue V) where
  unread_third : (shelf : ShelfSeen) (v : SpecParts) (structures : List Structure) (sys : SystemParts) (file text : List ℕ) (stop : Stop) → IsSystemOf v structures sys → StopsAs (IsUnread (grammar v sys) shelf file) text stop → StopsAs (AnswersThird grammar answers shelf file v structures) text stop
  unread_third shelf v structures sys file text Memory system h = tt
  unread_third shelf v structures sys file text (Answered status) system h = ((sys, system, inl h.0), h.1)

  -- where no third file is taken behind a specification and a solution, that is the answer
  pub stops_at_third : {A : Type 0} (files : A → Files) (faults longs : A → ℕ) (may_ask : A → List ℕ → ℕ → Type 0) (old mid new : A) (v : SpecParts) (structures : List Structure) (sys : SystemParts) (spec sol file text : List ℕ) (stop : Stop)
      → IsRead spec_grammar (files old) spec v → IsRead (solution_grammar v) (files old) sol structures → IsSystemOf v structures sys → KeepsShelf files faults longs may_ask old mid → StopsAs (IsUnread (grammar v sys) (shelf_seen files faults longs mid new) file) text stop
      → StopsAs (AnswersBoth (AnswersThird grammar answers (shelf_seen files faults longs old new) file) (shelf_seen files faults longs old new) spec sol) text stop
  stops_at_third files faults longs may_ask old mid new v structures sys spec sol file text stop read sol_read system kept h =
      let shelf : ShelfSeen = shelf_seen files faults longs old new in
      let unread = stops_since (grammar v sys) files faults longs may_ask old mid new file text stop kept h in
      let behind = unread_third shelf v structures sys file text stop system unread in
      let both = stops_behind (solution_grammar v) (AnswersThird grammar answers shelf file v) shelf sol structures text stop sol_read behind in
      stops_behind spec_grammar (λ v. ReadsAndAnswers (solution_grammar v) (AnswersThird grammar answers shelf file v) shelf sol) shelf spec v text stop read both

  -- where all three are read, what the third is answered is the answer
  pub ends_third : {A : Type 0} (files : A → Files) (faults longs : A → ℕ) (may_ask : A → List ℕ → ℕ → Type 0) (old mid new : A) (v : SpecParts) (structures : List Structure) (sys : SystemParts) (value : V) (spec sol file text : List ℕ) (status : Status)
      → IsRead spec_grammar (files old) spec v → IsRead (solution_grammar v) (files old) sol structures → IsSystemOf v structures sys → KeepsShelf files faults longs may_ask old mid → IsRead (grammar v sys) (files mid) file value
      → answers v structures sys value status text → 0 < length text → AnswersBoth (AnswersThird grammar answers (shelf_seen files faults longs old new) file) (shelf_seen files faults longs old new) spec sol status text × (0 < length text)
  ends_third files faults longs may_ask old mid new v structures sys value spec sol file text status read sol_read system kept file_read is some =
      let here : IsRead (grammar v sys) (files old) file value = subst (λ (all : Files). IsRead (grammar v sys) all file value) kept.same_files file_read in
      (inr (v, read, inr (structures, sol_read, (sys, system, inr (value, here, is)))), some)
