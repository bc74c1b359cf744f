mod SettledLemmas
