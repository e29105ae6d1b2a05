-- What holds of a lawful bus over whole lists of events.
use Rattle.std.proofs.Common.{◌≡◌, refl, sym, ap, ◌∙◌, true, cond, List, [], ◌∷◌, ℕ, ◌<◌, eqb}
use Rattle.bus.specs.Meaning.{Meaning, Laws, Event, read, write, clock, drive, Quiet}
use Rattle.bus.specs.Seen.{replay, seen, Alike, AllProper, last_written, ReadsLastWritten}

pub seen_laws : {S : Type 0} (size : ℕ) (m : Meaning S) → Laws size m → (s : S) → Laws size (seen m s)
seen_laws size m laws s = record {
  kind = λ es. laws.kind (replay m s es);
  kept = λ es. laws.kept (replay m s es);
  written = λ es. laws.written (replay m s es);
  quiet = λ es. laws.quiet (replay m s es);
}

replay_seen : {S : Type 0} (m : Meaning S) (s : S) (es : List Event) → replay (seen m s) [] es ≡ es
replay_seen m s [] = refl
replay_seen m s (e ∷ es) = ap (◌∷◌ e) (replay_seen m s es)

pub seen_alike : {S : Type 0} (m : Meaning S) (s : S) → Alike m s (seen m s) []
seen_alike m s = record {
  reads = λ es a. ap (λ x. m.reads (replay m s x) a) (sym (replay_seen m s es));
  requests = λ es. ap (λ x. m.requests (replay m s x)) (sym (replay_seen m s es));
  keeps = λ es a. ap (λ x. m.keeps (replay m s x) a) (sym (replay_seen m s es));
  cell = λ es a. ap (λ x. m.cell (replay m s x) a) (sym (replay_seen m s es));
}

module _ {S : Type 0} (size : ℕ) (m : Meaning S) (laws : Laws size m) (s : S) (a : ℕ) (below : a < size) (keeps : m.keeps s a ≡ true) where
  pub kept_stays : (es : List Event) → AllProper size es → m.keeps (replay m s es) a ≡ true
  kept_stays [] p = keeps
  kept_stays (e ∷ es) p = laws.kind (replay m s es) e a p.0 below ∙ kept_stays es p.1

  unaltered : (e : Event) (es : List Event) {v : ℕ} → Quiet e → AllProper size (e ∷ es) → m.cell (replay m s es) a ≡ v → m.cell (replay m s (e ∷ es)) a ≡ v
  unaltered e es q p was = laws.quiet (replay m s es) e a q p.0 below (kept_stays es p.1) ∙ was

  cell_last_written : (es : List Event) → AllProper size es → m.cell (replay m s es) a ≡ last_written a (m.cell s a) es
  cell_last_written [] p = refl
  cell_last_written (read b ∷ es) p = unaltered (read b) es tt p (cell_last_written es p.1)
  cell_last_written (write b v ∷ es) p =
      laws.written (replay m s es) b v a p.0.0 p.0.1 below (kept_stays es p.1) ∙ ap (cond (eqb b a) v) (cell_last_written es p.1)
  cell_last_written (clock ∷ es) p = unaltered clock es tt p (cell_last_written es p.1)
  cell_last_written (drive b v ∷ es) p = unaltered (drive b v) es tt p (cell_last_written es p.1)

  pub reads_last : (es : List Event) → AllProper size es → m.reads (replay m s es) a ≡ last_written a (m.reads s a) es
  reads_last es p =
      laws.kept (replay m s es) a below (kept_stays es p) ∙ cell_last_written es p ∙ ap (λ x. last_written a x es) (sym (laws.kept s a below keeps))

pub reads_last_written : {S : Type 0} (size : ℕ) (m : Meaning S) → Laws size m → (s : S) → ReadsLastWritten size m s
reads_last_written size m laws s es a p below keeps = reads_last size m laws s a below keeps es p
