-- Which object, worker or node a word names, and what is told of it.
use Rattle.std.specs.Prelude.{◌≡◌, ◌<◌, ◌^◌, ℕ, List}
use Rattle.ids.specs.Texts.{IsObject, node_text, object_text, worker_text}
use Rattle.meaning.specs.Values.{Id}
use Rattle.log_words.specs.declared.contents.Contents.{Contents}
use Rattle.run_commands.specs.declared.form.Form.{Form}
use Rattle.run_commands.specs.declared.form.Form.TheVariants.{Why, WhyNode, WhyWorker}

-- the text names the object, worker or node of which the form tells
abbrev pub Names : List ℕ → Contents → Form → Type 0
Names text contents (Why c o) = (c ≡ contents) × (text ≡ object_text o)
Names text contents (WhyWorker c w) = (c ≡ contents) × (text ≡ worker_text w)
Names text contents (WhyNode c n) = (c ≡ contents) × (text ≡ node_text n)
Names text contents _ = ⊥

-- it names none, whatever its number
pub record NamesNone (text : List ℕ) : Type 0 where
  pub object : (o : Id) → IsObject o → text ≡ object_text o → ⊥
  pub worker : (w : ℕ) → w < 2 ^ 32 → text ≡ worker_text w → ⊥
  pub node : (n : ℕ) → n < 2 ^ 32 → text ≡ node_text n → ⊥
