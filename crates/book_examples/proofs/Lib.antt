mod Played
mod Filtered
mod LinkLists
mod Three
mod Words
mod Numbers
