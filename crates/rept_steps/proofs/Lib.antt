mod Deciding
mod LinkedLemmas
