-- A past that begins with a snapshot is known by the snapshot's value.
use Rattle.std.proofs.Common.{◌≡◌, ℕ, Vec, ap, ◌∙◌}
use Rattle.std.specs.declared.alloc.Global.{Global}
use Rattle.std.specs.declared.snapshot.Snapshot.{Snapshot}
use Rattle.log_file.specs.declared.content.Content.{Content}
use Rattle.log_file.specs.declared.past.Past.{Past}
use Rattle.log_file.specs.declared.past.Past.TheVariants.{Opened, Appended, Cut, Synced, Broken}
use Rattle.log_file.specs.Files.{after_open, after_append, after_cut, after_sync, after_failure}

pub is_opened : (s : Snapshot Content) (content : Content) → s.value ≡ content → Opened s ≡ after_open content
is_opened s content e = ap after_open e

pub is_appended : (p : Snapshot Past) (s : Snapshot (Vec ℕ Global)) (before : Past) (bytes : Vec ℕ Global) → p.value ≡ before → s.value ≡ bytes → Appended p s ≡ after_append before bytes
is_appended p s before bytes d e = ap (λ past. after_append past s.value) d ∙ ap (after_append before) e

pub is_cut : (p : Snapshot Past) (s : Snapshot ℕ) (before : Past) (len : ℕ) → p.value ≡ before → s.value ≡ len → Cut p s ≡ after_cut before len
is_cut p s before len d e = ap (λ past. after_cut past s.value) d ∙ ap (after_cut before) e

pub is_synced : (p : Snapshot Past) (before : Past) → p.value ≡ before → Synced p ≡ after_sync before
is_synced p before d = ap after_sync d

pub is_broken : (p : Snapshot Past) (before : Past) → p.value ≡ before → Broken p ≡ after_failure before
is_broken p before d = ap after_failure d
