mod AdmissionLemmas
mod DigestLemmas
mod FileLemmas
mod FirstLineLemmas
mod FrontLemmas
mod GuardLemmas
